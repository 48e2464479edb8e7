-- Tokens that were read so far, and what is said of all of them.
use Rattle.std.proofs.Common.{◌≡◌, ◌≤◌, ℕ, List, [], ◌∷◌, ◌++◌, ◌-◌, Option, Some, None, refl, sym, ap, subst, ◌∙◌, length, arith}
use Rattle.asn_lexer.specs.Pieces.{piece_at}
use Rattle.asn_lexer.specs.Tokens.{Reads, reads_none, reads_blank, reads_token, place_before, HasTokens, StopsAt}
use Rattle.asn_lexer.specs.declared.kind.Kind.{Kind}
use Rattle.asn_lexer.specs.declared.piece.Piece.{Piece}
use Rattle.asn_lexer.specs.declared.piece.Piece.TheVariants as piece
use Rattle.asn_lexer.specs.declared.token.Token.{Token}
use Rattle.asn_lexer.proofs.Shorter.{none_at_end, piece_lt}

pub blank_more : {total : ℕ} {u v w : List ℕ} {ts : List Token} → Reads total u ts v → piece_at v ≡ Some (piece.Blank, w) → Reads total u ts w
blank_more reads_none e = reads_blank e reads_none
blank_more (reads_blank h r) e = reads_blank h (blank_more r e)
blank_more (reads_token h r) e = reads_token h (blank_more r e)

pub token_more : {total : ℕ} {u v w : List ℕ} {ts : List Token} {k : Kind} → Reads total u ts v → piece_at v ≡ Some (piece.Token k, w)
    → Reads total u (ts ++ (record { kind = k; start = place_before total v; end = place_before total w }) ∷ []) w
token_more reads_none e = reads_token e reads_none
token_more (reads_blank h r) e = reads_blank h (token_more r e)
token_more (reads_token h r) e = reads_token h (token_more r e)

-- What a piece is, and what follows it.
record Same (p q : Piece) (v w : List ℕ) : Type 0 where
  pub piece : p ≡ q
  pub rest : v ≡ w

some_same : {A : Type 0} {x y : A} {o : Option A} → o ≡ Some x → o ≡ Some y → x ≡ y
some_same {x = x} {y = y} a b = let e : Some x ≡ Some y = sym a ∙ b in cc

same_piece : (u : List ℕ) {v w : List ℕ} {p q : Piece} → piece_at u ≡ Some (p, v) → piece_at u ≡ Some (q, w) → Same p q v w
same_piece u e f = let h = some_same e f in record { piece = ap (λ x. x.0) h; rest = ap (λ x. x.1) h }

moved : {total : ℕ} {v w x : List ℕ} {ts : List Token} → v ≡ w → Reads total w ts x → Reads total v ts x
moved {total = total} {x = x} {ts = ts} e r = subst (λ y. Reads total y ts x) (sym e) r

-- Two that read as far as can be read the same tokens, and end at the same rest.
pub same_reading : {total : ℕ} {u v w : List ℕ} {ts us : List Token} → piece_at v ≡ None → piece_at w ≡ None → Reads total u ts v → Reads total u us w → (ts ≡ us) × (v ≡ w)
same_reading m n reads_none reads_none = (refl, refl)
same_reading m n reads_none (reads_blank {v = x} f s) = let h : ◌≡◌ {A = Option (Piece × List ℕ)} None (Some (piece.Blank, x)) = sym m ∙ f in absurd (let y : ⊥ = cc in y)
same_reading m n reads_none (reads_token {v = x} {k = k} f s) = let h : ◌≡◌ {A = Option (Piece × List ℕ)} None (Some (piece.Token k, x)) = sym m ∙ f in absurd (let y : ⊥ = cc in y)
same_reading m n (reads_blank {v = x} e r) reads_none = let h : ◌≡◌ {A = Option (Piece × List ℕ)} None (Some (piece.Blank, x)) = sym n ∙ e in absurd (let y : ⊥ = cc in y)
same_reading m n (reads_blank e r) (reads_blank f s) = same_reading m n r (moved (same_piece _ e f).rest s)
same_reading m n (reads_blank e r) (reads_token {k = k} f s) = let h : piece.Blank ≡ piece.Token k = (same_piece _ e f).piece in absurd (let y : ⊥ = cc in y)
same_reading m n (reads_token {v = x} {k = k} e r) reads_none = let h : ◌≡◌ {A = Option (Piece × List ℕ)} None (Some (piece.Token k, x)) = sym n ∙ e in absurd (let y : ⊥ = cc in y)
same_reading m n (reads_token {k = k} e r) (reads_blank f s) = let h : piece.Token k ≡ piece.Blank = (same_piece _ e f).piece in absurd (let y : ⊥ = cc in y)
same_reading {total = total} {u = u} m n (reads_token {v = x} {ts = ts} {k = k} e r) (reads_token {v = y} {ts = us} {k = l} f s) =
    let p = same_piece u e f in
    let h : piece.Token k ≡ piece.Token l = p.piece in
    let kinds : k ≡ l = cc in
    let q = same_reading m n r (moved p.rest s) in (
      ap (λ z. (record { kind = z; start = place_before total u; end = place_before total x }) ∷ ts) kinds
          ∙ ap (λ z. (record { kind = l; start = place_before total u; end = place_before total z }) ∷ ts) p.rest
          ∙ ap (λ zs. (record { kind = l; start = place_before total u; end = place_before total y }) ∷ zs) q.0,
      q.1,
    )

at_end : piece_at [] ≡ None
at_end = sym (none_at_end [] (omega arith))

pub same_tokens : (text : List ℕ) (ts us : List Token) → HasTokens text ts → HasTokens text us → ts ≡ us
same_tokens text ts us r s = (same_reading at_end at_end r s).0

pub same_stop : (text : List ℕ) (m n : ℕ) → StopsAt text m → StopsAt text n → m ≡ n
same_stop text m n a b = a.here ∙ ap (place_before (length text)) (same_reading a.stuck b.stuck a.reads b.reads).1 ∙ sym b.here

pub stops_without : (text : List ℕ) (n : ℕ) (ts : List Token) → StopsAt text n → HasTokens text ts → ⊥
stops_without text n ts a r = a.more (same_reading a.stuck at_end a.reads r).1

-- Where a loop over a text begins.
pub nothing_read : (text rest : List ℕ) (ts : List Token) → rest ≡ text → ts ≡ [] → Reads (length text) text ts rest × (length rest ≤ length text)
nothing_read text rest ts e n =
    (subst (λ x. Reads (length text) text ts x) (sym e) (subst (λ xs. Reads (length text) text xs text) (sym n) reads_none), omega (arith, ap (λ x. length x) e))

-- What such a loop has past a piece.
pub within : (text u v : List ℕ) (p : Piece) → Some (p, v) ≡ piece_at u → length u ≤ length text → length v ≤ length text
within text u v p e l = omega (arith, piece_lt u v p (sym e), l)

pub past_blank : (text u v : List ℕ) (ts : List Token) (p : Piece) → Reads (length text) text ts u → Some (p, v) ≡ piece_at u → p ≡ piece.Blank → Reads (length text) text ts v
past_blank text u v ts p r e b = blank_more r (subst (λ q. piece_at u ≡ Some (q, v)) b (sym e))

pub past_token : (text u v : List ℕ) (ts us : List Token) (p : Piece) (k : Kind) → Reads (length text) text ts u → Some (p, v) ≡ piece_at u → p ≡ piece.Token k
    → us ≡ ts ++ (record { kind = k; start = length text - length u; end = length text - length v }) ∷ [] → Reads (length text) text us v
past_token text u v ts us p k r e t made =
    subst (λ xs. Reads (length text) text xs v) (sym made) (token_more r (subst (λ q. piece_at u ≡ Some (q, v)) t (sym e)))
