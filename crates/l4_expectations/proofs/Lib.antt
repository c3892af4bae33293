mod Refusing
mod Agreeing
mod Answering
mod TestedLines
mod CopiedLines
