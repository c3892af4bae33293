use Rattle.std.proofs.lemmas.Result.{IfOk-weaker}
use Rattle.l4_checkpoints.proofs.Written.{is_written}
use Rattle.l4_checkpoints.proofs.files.write_checkpoint.Goals as goal

pub returns : goal.returns
returns c =
    let put = c.in_ok-put_kernel.ensures in
    IfOk-weaker c.file_of.result _ _ (λ bytes is. is_written c.args.frames c.args.entries c.args.kernel.now c.page_size.result c.new-words.result.items c.put_kernel.new.out.items c.as_slice.result.now
    put.0 bytes.items c.new-words.ensures.items put.2 c.as_slice.ensures.value c.page_size.ensures put.1 c.file_of.ensures.words c.file_of.ensures.few is) c.file_of.ensures.file
