-- Page faults and requests for frames, as C gets them (this profile's own).
use Rattle.std.specs.Prelude.{◌≡◌, ◌⊎◌, ℕ}
use Rattle.l4_fpage.specs.Rights.{bits_of}
use Rattle.l4_fpage.specs.Fpages.{fpage_word}
use Rattle.l4_msg.specs.Protocols.{FaultReads, RequestReads}
use Rattle.l4_msg.specs.declared.messages.Message.{Message}
use Rattle.l4_msg.specs.declared.protocols.PageFault.{PageFault}
use Rattle.l4_msg.specs.declared.protocols.FrameRequest.{FrameRequest}
use Rattle.l4_c_values.specs.declared.protocols.FaultResult.{FaultResult}
use Rattle.l4_c_values.specs.declared.protocols.RequestResult.{RequestResult}

abbrev pub fault_result : PageFault → FaultResult
fault_result fault = record { refusal = 0; detail = 0; there = 1; address = fault.address; ip = fault.ip; access = bits_of fault.access }

-- no fault; the code and its number say why the words are not a message, or are 0
abbrev pub no_fault_result : ℕ → ℕ → FaultResult
no_fault_result code number = record { refusal = code; detail = number; there = 0; address = 0; ip = 0; access = 0 }

-- the result is the page fault that the message is, or none if it is not a page fault
abbrev pub TellsFaultOf : Message → FaultResult → Type 0
TellsFaultOf m r =
    ((r ≡ no_fault_result 0 0) × ((fault : PageFault) → ¬ (FaultReads m fault))) ⊎ ((fault : PageFault) × (r ≡ fault_result fault) × FaultReads m fault)

abbrev pub request_result : FrameRequest → RequestResult
request_result request = record { refusal = 0; detail = 0; there = 1; fpage = fpage_word request.fpage; attributes = request.attributes }

-- no request; the code and its number say why the words are not a message, or are 0
abbrev pub no_request_result : ℕ → ℕ → RequestResult
no_request_result code number = record { refusal = code; detail = number; there = 0; fpage = 0; attributes = 0 }

-- the result is the request that the message is, or none if it is not a request
abbrev pub TellsRequestOf : Message → RequestResult → Type 0
TellsRequestOf m r =
    ((r ≡ no_request_result 0 0) × ((request : FrameRequest) → ¬ (RequestReads m request)))
    ⊎ ((request : FrameRequest) × (r ≡ request_result request) × RequestReads m request)
