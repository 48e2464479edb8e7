-- What stands around a part of a shape.
use Rattle.std.specs.Prelude.{ℕ, suc, List, [], Option, Some, None}
use Rattle.std.specs.Global.{Vec}
use Rattle.asn_model.specs.declared.readable.Enclosing.{Enclosing, fold-Enclosing}
use Rattle.asn_model.specs.declared.readable.Enclosing.TheOpen.{Enclosing-F}

-- The number of loops, of the number of those further out.
abbrev pub loops_step : Enclosing-F ℕ → ℕ
loops_step (Enclosing-F.Loops n) = n
loops_step (Enclosing-F.Loop outer) = suc outer.now
loops_step (Enclosing-F.Part outer) = outer.now

-- The number of loops around.
abbrev pub loops_of : Enclosing → ℕ
loops_of = fold-Enclosing ℕ loops_step

-- The number of innermost loops with nothing else between, of that number further out.
abbrev pub unguarded_step : Enclosing-F ℕ → ℕ
unguarded_step (Enclosing-F.Loops n) = n
unguarded_step (Enclosing-F.Loop outer) = suc outer.now
unguarded_step (Enclosing-F.Part outer) = 0

-- The number of innermost loops around with no list, sequence, set, table or choice between.
abbrev pub unguarded_of : Enclosing → ℕ
unguarded_of = fold-Enclosing ℕ unguarded_step

-- The entries after an extension marker, and none where there is none.
abbrev pub entries_of : {A : Type 0} → Option (Vec A) → List A
entries_of None = []
entries_of (Some v) = v.items
