-- What is left in a script's reader (this profile's own).
use Rattle.std.specs.Prelude.{ℕ, List, Option}
use Rattle.l4_text.specs.declared.sources.ScriptReader.{ScriptReader}
use Rattle.l4_text.specs.declared.sources.ScriptReader.TheVariants.{Standard, File}

-- the bytes that reads will return, if they are known for standard input or for the file
abbrev pub left : {S F : Type 0} → (S → Option (List ℕ)) → (F → Option (List ℕ)) → ScriptReader S F → Option (List ℕ)
left of_standard of_file (Standard s) = of_standard s
left of_standard of_file (File f) = of_file f
