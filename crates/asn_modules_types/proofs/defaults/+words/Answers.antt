use Rattle.std.proofs.Common.{◌≡◌, ◌+◌, ◌-◌, ◌∙◌, None, Some, arith, map, sym, ap}
use Rattle.asn_modules_names.specs.declared.lookup.sort.Sort.TheVariants.{Types}
use Rattle.asn_modules_grammar.specs.notation.View.{notation_view}
use Rattle.asn_modules_types.specs.Assigned.{assigned, stated_type}
use Rattle.asn_modules_types.specs.Known.{assigned_view, sources_of}
use Rattle.asn_modules_types.proofs.Following.{follows_word, follows_word_none}
use Rattle.asn_modules_types.proofs.Numbering.{name_held, other_held, word_behind, word_led}
use Rattle.asn_modules_types.proofs.defaults.+words.Goals as goal

pub returns-then-more-eq0 : goal.returns-then-more-eq0
returns-then-more-eq0 t c = sym (follows_word_none (sources_of c.args.names.now) c.args.more c.args.number c.args.word.now c.if-more-eq0.true)

pub returns-in_err-assigned : goal.returns-in_err-assigned
returns-in_err-assigned t c =
    let less = c.args.more - 1 in
    let above : c.args.more ≡ less + 1 = omega (arith, c.if-more-eq0.false) in
    c.from_residual.ensures ∙ follows_word (sources_of c.args.names.now) c.args.more less c.args.number above (map assigned_view c.args.names.now.types.now) c.requires.known.types c.args.word.now None c.in_err-assigned.ensures.there

pub returns-in_err-next-in-Reference : goal.returns-in_err-next-in-Reference
returns-in_err-next-in-Reference t c =
    let less = c.args.more - 1 in
    let above : c.args.more ≡ less + 1 = omega (arith, c.if-more-eq0.false) in
    let n = c.notation_of-notation.result.now in
    c.from_residual-in_err-next-in-Reference.ensures
    ∙ word_behind (sources_of c.args.names.now) c.args.more less c.args.number (map assigned_view c.args.names.now.types.now) (assigned_view c.in_ok-assigned.assigned) (notation_view n) c.args.word.now above c.requires.known.types c.in_ok-assigned.ensures.there
    (sym c.notation_of-notation.ensures) c.in-Reference.module c.in-Reference.name None (name_held n c.in-Reference.module c.in-Reference.name c.in-Reference.is) c.in_err-next-in-Reference.ensures

pub returns-in_ok-next-in-Reference : goal.returns-in_ok-next-in-Reference
returns-in_ok-next-in-Reference t c =
    let less = c.args.more - 1 in
    let above : c.args.more ≡ less + 1 = omega (arith, c.if-more-eq0.false) in
    let n = c.notation_of-notation.result.now in
    c.number_word.ensures
    ∙ word_behind (sources_of c.args.names.now) c.args.more less c.args.number (map assigned_view c.args.names.now.types.now) (assigned_view c.in_ok-assigned.assigned) (notation_view n) c.args.word.now above c.requires.known.types c.in_ok-assigned.ensures.there
    (sym c.notation_of-notation.ensures) c.in-Reference.module c.in-Reference.name (Some c.in_ok-next-in-Reference.next) (name_held n c.in-Reference.module c.in-Reference.name c.in-Reference.is) c.in_ok-next-in-Reference.ensures

pub returns-in_err-constant-in_default : goal.returns-in_err-constant-in_default
returns-in_err-constant-in_default t c =
    let ss = sources_of c.args.names.now in
    let less = c.args.more - 1 in
    let above : c.args.more ≡ less + 1 = omega (arith, c.if-more-eq0.false) in
    let n = c.notation_of-notation.result.now in
    c.from_residual-in_err-constant-in_default.ensures
    ∙ word_led ss c.args.more less c.args.number (map assigned_view c.args.names.now.types.now) (assigned_view c.in_ok-assigned.assigned) (notation_view n) c.args.word.now above c.requires.known.types c.in_ok-assigned.ensures.there
    (sym c.notation_of-notation.ensures) None (other_held n c.in_default.not-Reference) (c.in_err-constant-in_default.ensures (map stated_type (assigned Types ss)) c.requires.known.numbers)

pub returns-in_ok-constant-in_default : goal.returns-in_ok-constant-in_default
returns-in_ok-constant-in_default t c =
    let ss = sources_of c.args.names.now in
    let less = c.args.more - 1 in
    let above : c.args.more ≡ less + 1 = omega (arith, c.if-more-eq0.false) in
    let n = c.notation_of-notation.result.now in
    ap Some (c.constant_in.ensures less)
    ∙ word_led ss c.args.more less c.args.number (map assigned_view c.args.names.now.types.now) (assigned_view c.in_ok-assigned.assigned) (notation_view n) c.args.word.now above c.requires.known.types c.in_ok-assigned.ensures.there
    (sym c.notation_of-notation.ensures) (Some c.in_ok-constant-in_default.constant) (other_held n c.in_default.not-Reference) (c.in_ok-constant-in_default.ensures (map stated_type (assigned Types ss)) c.requires.known.numbers)
