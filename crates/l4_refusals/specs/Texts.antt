-- The meanings of refusals in words (this profile's own).
use Rattle.std.specs.Prelude.{ℕ, ◌+◌, ◌*◌, List, [], ◌∷◌, ◌++◌, nat_eq, slice_index_or, if◌then◌else◌, codes}

-- a refusal's number is the first two bytes of its printed code
abbrev pub spelled : List ℕ → ℕ
spelled code = slice_index_or code 0 0 * 256 + slice_index_or code 1 0

-- the codes of the library, of the kernel and of running out of memory, each with a line that says what it means
abbrev pub kernel_texts : List (List ℕ × List ℕ)
kernel_texts =
    (codes "B1", codes "the handle is empty: it was never created, or it was freed")
    ∷ (codes "B2", codes "the handle is not empty: free it before you use it again")
    ∷ (codes "B3", codes "the kind of call is unknown, or a reserved member is not 0")
    ∷ (codes "B4", codes "the page size must be 4,096 or 1,024 bytes")
    ∷ (codes "B5", codes "the line is not a step or query of a step list")
    ∷ (codes "B6", codes "the bytes cannot be read as a checkpoint")
    ∷ (codes "B7", codes "a number of entries exceeds 2^63")
    ∷ (codes "K1", codes "the step is not enabled: this transfer or expiry cannot happen now, or the thread does not wait")
    ∷ (codes "K2", codes "there is no thread with this number")
    ∷ (codes "K3", codes "the thread's previous call has not ended yet")
    ∷ (codes "K4", codes "a timeout is neither never (0) nor zero (0x400)")
    ∷ (codes "K6", codes "the number of frames must be from 1 to 4,096")
    ∷ (codes "NoMemory", codes "there was not enough memory")
    ∷ []

-- the codes of messages, each with a line that says what it means
abbrev pub message_texts : List (List ℕ × List ℕ)
message_texts =
    (codes "M1", codes "the tag counts more than 63 words, untyped and typed together")
    ∷ (codes "M2", codes "the tag counts an odd number of typed words, but every item has two")
    ∷ (codes "M3", codes "the item has an unknown kind, or its fpage is invalid")
    ∷ (codes "M4", codes "the item is a string or CtrlXfer item, which the kernel does not support")
    ∷ (codes "M5", codes "a flag is set in the tag, but the kernel supports no flags")
    ∷ (codes "M6", codes "the receive window is not a valid fpage")
    ∷ (codes "M7", codes "the tag is missing, or fewer words follow it than it counts")
    ∷ []

-- the codes of thread controls and of Unmaps, each with a line that says what it means
abbrev pub control_texts : List (List ℕ × List ℕ)
control_texts =
    (codes "H1", codes "the caller is not in root's address space")
    ∷ (codes "H2", codes "the id is not a valid thread id")
    ∷ (codes "H3", codes "a thread with this number already exists")
    ∷ (codes "H4", codes "there is no thread with this id")
    ∷ (codes "H5", codes "there are already 64 threads, or all space numbers are used up")
    ∷ (codes "H6", codes "sigma0, root and the caller itself cannot be deleted")
    ∷ (codes "U1", codes "a word passed to Unmap is not a valid fpage")
    ∷ (codes "U2", codes "Unmap got fewer words than its control word requires")
    ∷ []

-- the codes of regions without a plan and of missing messages, each with a line that says what it means
abbrev pub plan_texts : List (List ℕ × List ℕ)
plan_texts =
    (codes "N1", codes "the region has no pages")
    ∷ (codes "N2", codes "the source or target pages go beyond the end of a space: 1,048,576 pages, or 4,194,304 of 1,024 bytes")
    ∷ (codes "N3", codes "the region has no rights: request at least one of r, w and x")
    ∷ (codes "N4", codes "the region needs more than 1,984 map items, the most that 64 messages can hold")
    ∷ (codes "N5", codes "the plan has more than one message")
    ∷ (codes "N6", codes "the plan has no message with this number")
    ∷ []

-- the codes of the faults of a plan, each with a line that says what it means
abbrev pub check_texts : List (List ℕ × List ℕ)
check_texts =
    (codes "C1", codes "the item does not fit the region: it is a grant, has other rights, moves a page outside it, or moves a page to the wrong target")
    ∷ (codes "C2", codes "no item of the plan moves the page")
    ∷ (codes "C3", codes "the page at this position in the list is not in the region")
    ∷ (codes "C4", codes "one map item could move the page at this position and an earlier one, so the pages do not prove that no plan is shorter")
    ∷ (codes "C5", codes "the plan has more than 1,984 items, or not one page per item; or a too-long claim does not list 1,985 pages")
    ∷ (codes "C6", codes "the region itself is refused with N1, N2 or N3")
    ∷ []

-- the codes of a pager's table and of a locked kernel, each with a line that says what it means
abbrev pub table_texts : List (List ℕ × List ℕ)
table_texts =
    (codes "P1", codes "the region overlaps another region in the table")
    ∷ (codes "P2", codes "no region in the table covers this page with the requested access")
    ∷ (codes "P3", codes "the table is full: it has 64 regions")
    ∷ (codes "P4", codes "the region has no pages or no rights, or one of its pages or source pages is beyond the end of the space")
    ∷ (codes "L1", codes "the history is full: no call can start once it has more than 999,871 steps")
    ∷ (codes "L3", codes "the reply to an earlier call of this seat has not been taken yet")
    ∷ (codes "L4", codes "the seat of this number was already given out")
    ∷ (codes "L6", codes "a transfer that ran out of memory in the history succeeded when the history was replayed")
    ∷ (codes "L7", codes "the given links do not match the way the page got there")
    ∷ (codes "L8", codes "the entries or receipts that this needs were handed out")
    ∷ (codes "X1", codes "the seat of this number was given out, but was not returned")
    ∷ (codes "X2", codes "the seat of this number was never given out, or was returned twice")
    ∷ (codes "X3", codes "the seat of this number does not match the lock's records")
    ∷ []

-- the codes of litmus tests, each with a line that says what it means
abbrev pub order_texts : List (List ℕ × List ℕ)
order_texts =
    (codes "S1", codes "the command is unknown")
    ∷ (codes "S2", codes "the line has too few tokens, too many, or an invalid one")
    ∷ (codes "S3", codes "the line is longer than 4,096 bytes")
    ∷ (codes "S4", codes "the line does not end with a newline")
    ∷ (codes "S5", codes "the script already has 64 names")
    ∷ (codes "O1", codes "a litmus test has one unordered line, and after it at most one finally line")
    ∷ (codes "O2", codes "a query or a rule is allowed only after the finally line, and a name only before the unordered line")
    ∷ (codes "O3", codes "after the finally line, only show, parent, reply, never and always are allowed")
    ∷ (codes "O4", codes "steps is not allowed, because its answer depends on the whole order")
    ∷ (codes "O5", codes "no line creates the thread whose call this is")
    ∷ (codes "O6", codes "the litmus test has no unordered line")
    ∷ (codes "O7", codes "no outcome can have the line that the rule names")
    ∷ (codes "O8", codes "an expectation is not allowed in a litmus test: state a rule instead")
    ∷ []

-- all codes
abbrev pub texts : List (List ℕ × List ℕ)
texts = kernel_texts ++ (message_texts ++ (control_texts ++ (plan_texts ++ (check_texts ++ (table_texts ++ order_texts)))))

-- the code and the line of a refusal's number; both are empty if there is no such refusal
abbrev pub text_in : List (List ℕ × List ℕ) → ℕ → List ℕ × List ℕ
text_in [] number = ([], [])
text_in (text ∷ rest) number = if nat_eq (spelled text.0) number then text else text_in rest number
