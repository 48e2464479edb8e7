use Rattle.std.proofs.Common.{◌≡◌, ◌-◌, ◌∙◌, IsUtf8, Some, ap, false, length, subst, sym, true}
use Rattle.std.proofs.lemmas.Str.{IsUtf8-string_bytes}
use Rattle.std.specs.List.{list_all, slice_range}
use Rattle.asn_modules_types.specs.Defaults.{if_short, is_verbatim}
use Rattle.asn_modules_types.proofs.Strings.{string_altered, string_kept, string_long, string_other, string_short}
use Rattle.asn_modules_types.proofs.words.string_in.Goals as goal

pub returns-then-not-is_short : goal.returns-then-not-is_short
returns-then-not-is_short c =
    let same = c.inner-bytes.ensures ∙ ap (λ b. slice_range b 1 (length b - 1)) c.text_of.ensures in
    string_long c.inner-bytes.result.now (sym c.is_short.ensures ∙ c.if-not-is_short.true) ∙ ap if_short same

pub returns-then-not-are_verbatim : goal.returns-then-not-are_verbatim
returns-then-not-are_verbatim c =
    let same = c.inner-bytes.ensures ∙ ap (λ b. slice_range b 1 (length b - 1)) c.text_of.ensures in
    let lines = c.in_ok-joined.joined.items in
    string_short c.inner-bytes.result.now lines _ (sym c.is_short.ensures ∙ c.if-not-is_short.false) c.in_ok-joined.ensures
    (string_altered lines (ap (list_all is_verbatim) (sym c.as_slice.ensures.value) ∙ sym c.are_verbatim.ensures ∙ c.if-not-are_verbatim.true)) ∙ ap if_short same

pub returns-in-Ok : goal.returns-in-Ok
returns-in-Ok c =
    let same = c.inner-bytes.ensures ∙ ap (λ b. slice_range b 1 (length b - 1)) c.text_of.ensures in
    let lines = c.in_ok-joined.joined.items in
    let held = ap (λ b. b.items) c.in-Ok.ensures.ok in
    string_short c.inner-bytes.result.now lines _ (sym c.is_short.ensures ∙ c.if-not-is_short.false) c.in_ok-joined.ensures
    (ap Some held ∙ string_kept lines (ap (list_all is_verbatim) (sym c.as_slice.ensures.value) ∙ sym c.are_verbatim.ensures ∙ c.if-not-are_verbatim.false) (subst IsUtf8 held (IsUtf8-string_bytes c.in-Ok.string)))
    ∙ ap if_short same

pub returns-in-Err : goal.returns-in-Err
returns-in-Err c =
    let same = c.inner-bytes.ensures ∙ ap (λ b. slice_range b 1 (length b - 1)) c.text_of.ensures in
    let lines = c.in_ok-joined.joined.items in
    string_short c.inner-bytes.result.now lines _ (sym c.is_short.ensures ∙ c.if-not-is_short.false) c.in_ok-joined.ensures
    (string_other lines (λ u. let e : false ≡ true = c.in-Err.ensures.succeeds u in let y : ⊥ = cc in y)) ∙ ap if_short same
