-- The answer to a whole text.
use Rattle.std.proofs.Common.{◌≡◌, ◌⊎◌, inl, inr, ℕ, List, sym, ap, subst, refl, ◌∙◌, Result, Ok, Err, IfOk, IfErr, OnOk, Bool, []}
use Rattle.asn_core.specs.declared.codec.Codec.TheVariants.{Avn}
use Rattle.asn_fault.specs.Failure.{Failure, Cause, at_root, failure_of}
use Rattle.asn_fault.specs.declared.decode.DecodeError.{DecodeError}
use Rattle.avn_grammar.proofs.OneTree.{same_parses}
use Rattle.avn_grammar.proofs.OneAnswer.{reads-unread, reads-deep, unread-deep, same_unread}
use Rattle.avn_grammar.specs.Tree.{Tree}
use Rattle.avn_grammar.specs.Grammar.{Parses, ParsesWhole}
use Rattle.std.specs.Char.{is_whitespace}
use Rattle.avn_grammar.specs.Chars.{skip_while}
use Rattle.avn_grammar.specs.Depth.{ExceedsDepth}
use Rattle.avn_grammar.specs.ParseFailure.{ParseFailure, no_value, more_follows}
use Rattle.avn_nodes.specs.NodeLists.{NodeList, extended}
use Rattle.avn_nodes.specs.Preorder.{preorder}
use Rattle.avn_value.specs.ReadNodes.{IsRead}
use Rattle.avn_value.specs.Answer.{Explains, unexpected_token, exceeds_depth, out_of_memory, IsSeenAs, IsRefusal, IsMoreOrMemory, more, no_memory, IsFoundOrMemory, excerpt, memory}

pub more_explains : {limit : ℕ} {u n : List ℕ} {failure : Failure} (t : Tree) → Parses limit 0 u t n → IsMoreOrMemory n failure → Explains limit u failure
more_explains t s (more h) = unexpected_token _ (more_follows t s h)
more_explains t s no_memory = out_of_memory

pub found_explains : {limit : ℕ} {u : List ℕ} {failure : Failure} → ((t : Tree) (n : List ℕ) → Parses limit 0 u t n → ⊥) → (ExceedsDepth limit 0 u → ⊥) → IsFoundOrMemory u failure → Explains limit u failure
found_explains h d (excerpt found f) = unexpected_token _ (no_value (h, d) f)
found_explains h d memory = out_of_memory

pub whole_explains : {A E : Type 0} (failure : E → Failure) (limit : ℕ) (u n : List ℕ) (t : Tree) (r : Result A E) → Parses limit 0 u t n → IfErr r (λ e. IsMoreOrMemory n (failure e)) → IfErr r (λ e. Explains limit u (failure e))
whole_explains failure limit u n t (Ok v) s h = tt
whole_explains failure limit u n t (Err e) s h = more_explains t s h

-- The answer where the text is read, and where it is refused.
explains_read : {limit : ℕ} {u : List ℕ} {failure : Failure} {t : Tree} → Explains limit u failure → ParsesWhole limit u t → failure ≡ at_root Cause.out_of_memory Avn
explains_read (unexpected_token found k) r = absurd (reads-unread r k)
explains_read (exceeds_depth d) r = absurd (reads-deep r d)
explains_read out_of_memory r = refl

explains_unread : {limit : ℕ} {u found : List ℕ} {failure : Failure} → Explains limit u failure → ParseFailure limit u found → (failure ≡ at_root (Cause.unexpected_token found) Avn) ⊎ (failure ≡ at_root Cause.out_of_memory Avn)
explains_unread (unexpected_token found k) n = inl (ap (λ b. at_root (Cause.unexpected_token b) Avn) (same_unread k n))
explains_unread (exceeds_depth d) n = absurd (unread-deep n d)
explains_unread out_of_memory n = inr refl

explains_deep : {limit : ℕ} {u : List ℕ} {failure : Failure} → Explains limit u failure → ExceedsDepth limit 0 u → (failure ≡ at_root Cause.exceeds_max_parse_depth Avn) ⊎ (failure ≡ at_root Cause.out_of_memory Avn)
explains_deep (unexpected_token found k) d = absurd (unread-deep k d)
explains_deep (exceeds_depth e) d = inl refl
explains_deep out_of_memory d = inr refl

pub whole_read : {E : Type 0} {limit : ℕ} {u n : List ℕ} {i : Bool} (r : Result (Unit {0}) E) (s then : NodeList) → IsRead (λ t. Parses limit 0 u t n) s then i → OnOk r (skip_while is_whitespace n ≡ []) → OnOk r ((t : Tree) × ParsesWhole limit u t × (then ≡ extended s (preorder s.name t)))
whole_read (Err e) s then k h = tt
whole_read {n = n} (Ok x) s then k h = (k.0, (n, k.1, h), k.3)

module _ {A : Type 0} (see : A → Tree) (limit : ℕ) (u v : List ℕ) (same : u ≡ v) where
  pub is_read : (r : Result A DecodeError) → IfOk r (λ x. ParsesWhole limit u (see x)) → IfErr r (λ e. Explains limit u (failure_of e)) → (t : Tree) → ParsesWhole limit v t → IsSeenAs see t r
  is_read (Ok x) h k t r = let q : ParsesWhole limit u t = subst (λ y. ParsesWhole limit y t) (sym same) r in (same_parses h.1 q.1).0
  is_read (Err e) h k t r = explains_read k (subst (λ y. ParsesWhole limit y t) (sym same) r)

  pub is_unread : (r : Result A DecodeError) → IfOk r (λ x. ParsesWhole limit u (see x)) → IfErr r (λ e. Explains limit u (failure_of e)) → (found : List ℕ) → ParseFailure limit v found → IsRefusal (Cause.unexpected_token found) r
  is_unread (Ok x) h k found n = reads-unread h (subst (λ y. ParseFailure limit y found) (sym same) n)
  is_unread (Err e) h k found n = explains_unread k (subst (λ y. ParseFailure limit y found) (sym same) n)

  pub is_deep : (r : Result A DecodeError) → IfOk r (λ x. ParsesWhole limit u (see x)) → IfErr r (λ e. Explains limit u (failure_of e)) → ExceedsDepth limit 0 v → IsRefusal Cause.exceeds_max_parse_depth r
  is_deep (Ok x) h k d = reads-deep h (subst (λ y. ExceedsDepth limit 0 y) (sym same) d)
  is_deep (Err e) h k d = explains_deep k (subst (λ y. ExceedsDepth limit 0 y) (sym same) d)

err_weaker : {A E : Type 0} {P Q : E → Type 0} (r : Result A E) → ((e : E) → P e → Q e) → IfErr r P → IfErr r Q
err_weaker (Ok x) f k = tt
err_weaker (Err e) f k = f e k

-- The answer that is the value of a table, unless memory ran out.
pub memory_explains : {A : Type 0} (limit : ℕ) (u : List ℕ) (r : Result A DecodeError) → IfErr r (λ e. failure_of e ≡ at_root Cause.out_of_memory Avn) → IfErr r (λ e. Explains limit u (failure_of e))
memory_explains limit u r k = err_weaker r (λ e h. subst (Explains limit u) (sym h) out_of_memory) k

pub seen_as : {A : Type 0} (see : A → Tree) (r : Result A DecodeError) (table t : Tree) → table ≡ t → IfOk r (λ v. see v ≡ table) → IfErr r (λ e. failure_of e ≡ at_root Cause.out_of_memory Avn) → IsSeenAs see t r
seen_as see (Ok v) table t e k h = k ∙ e
seen_as see (Err x) table t e k h = h
