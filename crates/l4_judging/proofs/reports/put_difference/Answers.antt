use Rattle.l4_text.proofs.Telling.{tells_more, tells_is}
use Rattle.l4_judging.proofs.reports.put_difference.Goals as goal

pub returns : goal.returns
returns g c =
    tells_more _ _ _ _ _ _ _ _ (tells_more _ _ _ _ _ _ _ _ (tells_more _ _ _ _ _ _ _ _ (tells_more _ _ _ _ _ _ _ _ (tells_more _ _ _ _ _ _ _ _ (tells_more _ _ _ _ _ _ _ _ (tells_more _ _ _ _ _ _ _ _
    (tells_is _ _ _ _ _ _ c.line_text.ensures c.put.ensures)
    (tells_is _ _ _ _ _ _ c.as_slice.ensures.value c.put_bytes.ensures))
    c.put_bytes-2.ensures)
    c.put_wanted.ensures)
    c.put_bytes-3.ensures)
    c.put_bytes-4.ensures)
    c.end_line.ensures)
    (tells_is _ _ _ _ _ _ c.as_slice-2.ensures.value c.put_bytes-5.ensures)
