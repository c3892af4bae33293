use Rattle.std.proofs.Common.{ℕ, List, ◌++◌, ◌/◌, ap, ◌∙◌, codes}
use Rattle.std.specs.Fmt.{decimal}
use Rattle.l4_fpage.specs.Pages.{page_bytes}
use Rattle.l4_answers.specs.Pages.{rights_text}
use Rattle.l4_decode.specs.Spelling.{hex_text}
use Rattle.l4_decode.specs.Meanings.{fault_text}
use Rattle.l4_decode.proofs.Pieces.{text_more}
use Rattle.l4_decode.proofs.meanings.add_fault.Goals as goal

pub returns-clause-value : goal.returns-clause-value
unfolding fault_text
returns-clause-value c =
    let t : List ℕ = c.args.text.now in
    text_more t c.add-4.new.self c.add_rights.new.text (codes "page fault: address " ++ hex_text c.args.fault.now.address ++ codes " (page " ++ decimal (c.args.fault.now.address / page_bytes c.args.size) ++ codes "), ip " ++ hex_text c.args.fault.now.ip ++ codes ", access ") (rights_text c.args.fault.now.access)
    (text_more t c.add_hex-2.new.text c.add-4.new.self (codes "page fault: address " ++ hex_text c.args.fault.now.address ++ codes " (page " ++ decimal (c.args.fault.now.address / page_bytes c.args.size) ++ codes "), ip " ++ hex_text c.args.fault.now.ip) (codes ", access ")
    (text_more t c.add-3.new.self c.add_hex-2.new.text (codes "page fault: address " ++ hex_text c.args.fault.now.address ++ codes " (page " ++ decimal (c.args.fault.now.address / page_bytes c.args.size) ++ codes "), ip ") (hex_text c.args.fault.now.ip)
    (text_more t c.add_count.new.text c.add-3.new.self (codes "page fault: address " ++ hex_text c.args.fault.now.address ++ codes " (page " ++ decimal (c.args.fault.now.address / page_bytes c.args.size)) (codes "), ip ")
    (text_more t c.add-2.new.self c.add_count.new.text (codes "page fault: address " ++ hex_text c.args.fault.now.address ++ codes " (page ") (decimal (c.args.fault.now.address / page_bytes c.args.size))
    (text_more t c.add_hex.new.text c.add-2.new.self (codes "page fault: address " ++ hex_text c.args.fault.now.address) (codes " (page ")
    (text_more t c.add.new.self c.add_hex.new.text (codes "page fault: address ") (hex_text c.args.fault.now.address)
    (c.add.ensures.value) c.add_hex.ensures.value) c.add-2.ensures.value) (c.add_count.ensures.value ∙ ap (λ (n : ℕ). c.add-2.new.self ++ decimal n) c.page_of.ensures.value)) c.add-3.ensures.value) c.add_hex-2.ensures.value) c.add-4.ensures.value) c.add_rights.ensures.value
