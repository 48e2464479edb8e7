use Rattle.std.proofs.Common.{◌≡◌, List, true, map, Ok, Err, sym, ◌∙◌}
use Rattle.std.specs.Prelude.{IfErr, IfOk, Result}
use Rattle.std.specs.Global.{Vec}
use Rattle.asn_modules_grammar.specs.headers.Fronts.{IsSyntax}
use Rattle.asn_modules_grammar.specs.declared.headers.fault.SyntaxFault.{SyntaxFault}
use Rattle.asn_lexer.specs.declared.token.Token.{Token}
use Rattle.asn_modules_grammar.specs.notation.Modules as spec
use Rattle.asn_modules_grammar.specs.notation.Modules.{ModulesParse, TextParses, modules_parse, begins_module}
use Rattle.asn_modules_grammar.specs.notation.View.{module_view}
use Rattle.asn_modules_grammar.specs.declared.notation.module.Module.{Module}
use Rattle.asn_modules_reader.proofs.ModulesRead.{text_of_modules}
use Rattle.asn_modules_reader.proofs.module.read_text.Goals as goal

as_text : (u : List Token) (r : Result (Vec Module) SyntaxFault) → begins_module u ≡ true → IfOk r (λ ms. ModulesParse 64 u (map module_view ms.items)) → IfOk r (λ ms. TextParses 64 u (map module_view ms.items))
as_text u (Ok ms) b p = modules_parse b p
as_text u (Err e) b p = tt

no_text : (u : List Token) (r : Result (Vec Module) SyntaxFault) → begins_module u ≡ true → IfErr r (λ e. IsSyntax e → (ms : List spec.Module) → ModulesParse 64 u ms → ⊥) → IfErr r (λ e. IsSyntax e → (ms : List spec.Module) → TextParses 64 u ms → ⊥)
no_text u (Ok ms) b p = tt
no_text u (Err e) b p = λ syntax ms q. text_of_modules 64 u b (p syntax) ms q

pub returns-then-listed-clause-ok : goal.returns-then-listed-clause-ok
returns-then-listed-clause-ok c = as_text c.args.tokens.now c.read_modules.result (sym c.in_ok-listed.ensures.ok ∙ c.if-listed.true) c.read_modules.ensures.ok

pub returns-then-listed-clause-none : goal.returns-then-listed-clause-none
returns-then-listed-clause-none c = no_text c.args.tokens.now c.read_modules.result (sym c.in_ok-listed.ensures.ok ∙ c.if-listed.true) c.read_modules.ensures.none
