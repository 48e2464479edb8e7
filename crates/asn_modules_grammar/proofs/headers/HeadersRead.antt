-- At most one header stands at the front of tokens.
use Rattle.std.proofs.Common.{◌≡◌, List, Some, sym, ap, subst, ◌∙◌}
use Rattle.asn_lexer.specs.declared.token.Token.{Token}
use Rattle.asn_modules_grammar.specs.headers.Headers.{Header, HeaderParses, ImportsParse, exports_at}
use Rattle.asn_modules_grammar.proofs.headers.Imports.{same_imports, some_same}

pub same_header : {u v w : List Token} {h k : Header} → HeaderParses u h v → HeaderParses u k w → (h ≡ k) × (v ≡ w)
same_header {w = w} {h = h} {k = k} p q =
    let o = some_same p.opening q.opening in
    let x = some_same p.exports (subst (λ y. exports_at y ≡ Some (k.exports, q.behind_exports)) (sym (ap (λ y. y.1) o)) q.exports) in
    let i = same_imports p.imports (subst (λ y. ImportsParse y k.imports w) (sym (ap (λ y. y.1) x)) q.imports) in (
      ap (λ y. record { opening = y.0; exports = h.exports; imports = h.imports }) o
          ∙ ap (λ y. record { opening = k.opening; exports = y.0; imports = h.imports }) x
          ∙ ap (λ y. record { opening = k.opening; exports = k.exports; imports = y }) i.0,
      i.1,
    )
