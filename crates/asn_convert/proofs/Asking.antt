-- What an input asks for, from its bytes as they were read.
use Rattle.std.proofs.Common.{◌≡◌, sym, ap, ◌∙◌, subst, ℕ, List, ◌++◌, Option, Some, None, append-nil, length, ◌<◌, arith}
use Rattle.std.specs.Io.KnownBytes.{Consumes, IsAtEnd}
use Rattle.asn_streams.specs.Input.{IsWholeInput, input_limit}
use Rattle.asn_streams.specs.Transfer.{Transfer}
use Rattle.asn_convert.specs.Lines.{request_line, text_part, words}
use Rattle.asn_convert.specs.Requests.{Request, before_text, request_of, request_of_words}
use Rattle.asn_convert.specs.Run.{IsAnswerable, RequestsValue}

known_input : (old new : Option (List ℕ)) (input taken : List ℕ) → old ≡ Some input → Consumes old new taken → IsAtEnd new → input ≡ taken
known_input None new input taken told h end = let none : ◌≡◌ {A = Option (List ℕ)} None (Some input) = told in cc none
known_input (Some xs) None input taken told h end = absurd h
known_input (Some xs) (Some ys) input taken told h end =
    let same : ◌≡◌ {A = Option (List ℕ)} (Some xs) (Some input) = told in
    let is : xs ≡ input = cc same in
    sym is ∙ h ∙ ap (λ zs. taken ++ zs) end ∙ append-nil taken

-- what was read of a known input is the input
pub whole_input : {t : Transfer} {input taken : List ℕ} → t.bytes_before ≡ Some input → IsWholeInput t taken → input ≡ taken
whole_input told whole = known_input _ _ _ _ told whole.taken whole.ended

some_same : (a b : Request) {o : Option Request} → o ≡ Some a → o ≡ Some b → a ≡ b
some_same a b e f = let d : ◌≡◌ {A = Option Request} (Some a) (Some b) = sym e ∙ f in cc d

-- the request of an input is that of its line and its text
line_requests : (input text line rest : List ℕ) (request : Request) → input ≡ text → line ≡ request_line text → rest ≡ text_part text → before_text (request_of_words (words line)) rest ≡ Some request → request_of input ≡ Some request
line_requests input text line rest request same is_line is_rest named =
    ap request_of same ∙ ap (λ l. before_text (request_of_words (words l)) (text_part text)) (sym is_line) ∙ ap (before_text (request_of_words (words line))) (sym is_rest) ∙ named

-- an input whose line is a request is one that asks for something
pub requests_something : (input text line rest : List ℕ) (request : Request) → input ≡ text → line ≡ request_line text → rest ≡ text_part text → before_text (request_of_words (words line)) rest ≡ Some request → request_of input ≡ None → ⊥
requests_something input text line rest request same is_line is_rest named none =
    let d : ◌≡◌ {A = Option Request} None (Some request) = sym none ∙ line_requests input text line rest request same is_line is_rest named in cc d

-- a known input that was read whole is not above the limit
pub within_limit : {t : Transfer} {input taken : List ℕ} → t.bytes_before ≡ Some input → IsWholeInput t taken → input_limit < length input → ⊥
within_limit told whole above = omega (arith, ap length (whole_input told whole), whole.within, above)

-- the text of an input that is answered is answered as its line says
pub answerable_text : (input text line rest : List ℕ) (request : Request) → RequestsValue input → input ≡ text → line ≡ request_line text → rest ≡ text_part text
    → before_text (request_of_words (words line)) rest ≡ Some request → IsAnswerable request rest
answerable_text input text line rest request asks same is_line is_rest named =
    let e : asks.asks ≡ request = some_same asks.asks request asks.for_request (line_requests input text line rest request same is_line is_rest named) in
    subst (IsAnswerable request) (ap text_part same ∙ sym is_rest) (subst (λ m. IsAnswerable m (text_part input)) e asks.answerable)
