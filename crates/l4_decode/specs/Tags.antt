-- The text of a message tag (this profile's own).
use Rattle.std.specs.Prelude.{ℕ, ◌+◌, ◌-◌, ◌==◌, ◌&&◌, List, [], ◌++◌, nat_le, if◌then◌else◌, codes, decimal}
use Rattle.l4_fpage.specs.Rights.{RightsSet, set_of_bits}
use Rattle.l4_msg.specs.Protocols.{fault_label, request_label}
use Rattle.l4_msg.specs.Tags.{untyped_of, typed_of, flags_of, label_of}
use Rattle.l4_answers.specs.Pages.{rights_text}
use Rattle.l4_decode.specs.Spelling.{label_text, meaning_line}

-- the text after the label of a page fault, which has the access in its low three bits
unfoldable pub access_text : RightsSet → List ℕ
access_text access = codes " (page fault, " ++ rights_text access ++ codes ")"

-- the protocol that a label belongs to, if any
unfoldable pub protocol_text : ℕ → List ℕ
protocol_text label =
    if nat_le fault_label label && nat_le label (fault_label + 7) then access_text (set_of_bits (label - fault_label))
    else (if label == request_label then codes " (request to sigma0)" else [])

unfoldable pub tag_text : ℕ → List ℕ
tag_text tag =
    codes "label " ++ label_text (label_of tag) ++ protocol_text (label_of tag) ++ codes ", flags " ++ decimal (flags_of tag)
    ++ codes ", untyped " ++ decimal (untyped_of tag) ++ codes ", typed " ++ decimal (typed_of tag)

unfoldable pub tag_line : ℕ → List ℕ
tag_line tag = meaning_line (codes "tag ") tag (tag_text tag)
