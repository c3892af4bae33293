-- Messages of two untyped words and no item (this profile's own).
use Rattle.std.specs.Prelude.{[], ◌∷◌}
use Rattle.l4_msg.specs.declared.messages.Message.{Message}
use Rattle.l4_pager.specs.declared.briefs.BriefMessage.{BriefMessage}

abbrev pub brief_message : BriefMessage → Message
brief_message b = record { label = b.label; untyped = record { items = b.first ∷ b.second ∷ [] }; items = record { items = [] } }
