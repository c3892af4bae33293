-- The meaning of words (this profile's own).
use Rattle.std.specs.Prelude.{◌⊎◌, ℕ, true, List, codes}
use Rattle.l4_fpage.specs.declared.sizes.PageSize.{PageSize}
use Rattle.l4_decode.specs.Decoded.{IsDecoded}
use Rattle.l4_decode.specs.declared.decoding.Reading.{Reading}
use Rattle.l4_page.specs.declared.telling.Told.{Told as Answer}
use Rattle.l4_page.specs.Told.{IsTold, TellsNothing}

abbrev pub TellsWords : PageSize → Reading → List ℕ → List ℕ → List ℕ → Answer → Type 0
TellsWords size reading words old new told =
    ((text : List ℕ) × IsDecoded size reading words text × IsTold text true 0 old new told)
    ⊎ TellsNothing (codes "NoMemory") old new told
