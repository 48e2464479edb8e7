-- Trees as nested pairs, of which proofs tell one from another.
use Rattle.std.specs.Prelude.{◌≡◌, ℕ, zero, suc, List, [], true, false, refl}
use Rattle.std.specs.Coded.{Coded, code_by, coded×, coded_ℕ, coded_list}
use Rattle.avn_grammar.specs.Tree.{Tree}
use Rattle.avn_nodes.specs.declared.node_kind.NodeKind.{NodeKind}
use Rattle.avn_nodes.specs.declared.node_kind.NodeKind.TheVariants as kind
use Rattle.avn_nodes.specs.NodeViews.{NodeView, node_views}
use Rattle.avn_nodes.specs.Preorder.{preorder}
use Rattle.avn_nodes.specs.Forest.{tree_of_nodes}
use Rattle.avn_nodes.specs.ForestLaws.{tree_of_nodes-node_views}

-- The number of a kind.
abbrev pub kind_number : NodeKind → ℕ
kind_number (kind.Boolean true) = 0
kind_number (kind.Boolean false) = 1
kind_number kind.Integer = 2
kind_number kind.OctetString = 3
kind_number kind.BitString = 4
kind_number kind.Null = 5
kind_number kind.Oid = 6
kind_number kind.Real = 7
kind_number kind.Enumerated = 8
kind_number kind.Sequence = 9
kind_number kind.SequenceOf = 10
kind_number kind.Choice = 11
kind_number kind.CharString = 12
kind_number kind.Absent = 13

-- The kind of a number.
abbrev pub number_kind : ℕ → NodeKind
number_kind zero = kind.Boolean true
number_kind (suc zero) = kind.Boolean false
number_kind (suc (suc zero)) = kind.Integer
number_kind (suc (suc (suc zero))) = kind.OctetString
number_kind (suc (suc (suc (suc zero)))) = kind.BitString
number_kind (suc (suc (suc (suc (suc zero))))) = kind.Null
number_kind (suc (suc (suc (suc (suc (suc zero)))))) = kind.Oid
number_kind (suc (suc (suc (suc (suc (suc (suc zero))))))) = kind.Real
number_kind (suc (suc (suc (suc (suc (suc (suc (suc zero)))))))) = kind.Enumerated
number_kind (suc (suc (suc (suc (suc (suc (suc (suc (suc zero))))))))) = kind.Sequence
number_kind (suc (suc (suc (suc (suc (suc (suc (suc (suc (suc zero)))))))))) = kind.SequenceOf
number_kind (suc (suc (suc (suc (suc (suc (suc (suc (suc (suc (suc zero))))))))))) = kind.Choice
number_kind (suc (suc (suc (suc (suc (suc (suc (suc (suc (suc (suc (suc zero)))))))))))) = kind.CharString
number_kind (suc (suc (suc (suc (suc (suc (suc (suc (suc (suc (suc (suc (suc n))))))))))))) = kind.Absent

abbrev pub same_kind : (k : NodeKind) → number_kind (kind_number k) ≡ k
same_kind (kind.Boolean true) = refl
same_kind (kind.Boolean false) = refl
same_kind kind.Integer = refl
same_kind kind.OctetString = refl
same_kind kind.BitString = refl
same_kind kind.Null = refl
same_kind kind.Oid = refl
same_kind kind.Real = refl
same_kind kind.Enumerated = refl
same_kind kind.Sequence = refl
same_kind kind.SequenceOf = refl
same_kind kind.Choice = refl
same_kind kind.CharString = refl
same_kind kind.Absent = refl

-- A kind as its number.
abbrev pub kind_code : Coded NodeKind
kind_code = code_by ℕ coded_ℕ kind_number number_kind same_kind

-- A node as nested pairs.
abbrev pub cell_code : Coded NodeView
cell_code =
    code_by (NodeKind × (List ℕ × (List ℕ × (List ℕ × (ℕ × (List ℕ × ℕ)))))) (coded× kind_code (coded× (coded_list coded_ℕ) (coded× (coded_list coded_ℕ) (coded× (coded_list coded_ℕ) (coded× coded_ℕ (coded× (coded_list coded_ℕ) coded_ℕ))))))
    (λ c. (c.kind, (c.name, (c.text, (c.octets, (c.bits, (c.arcs, c.end)))))))
    (λ p. record { kind = p.0; name = p.1.0; text = p.1.1.0; octets = p.1.1.1.0; bits = p.1.1.1.1.0; arcs = p.1.1.1.1.1.0; end = p.1.1.1.1.1.1 }) (λ _. refl)

-- A tree as its nodes.
abbrev pub tree_code : Coded Tree
tree_code = code_by (List NodeView) (coded_list cell_code) (λ t. node_views 0 (preorder [] t)) tree_of_nodes tree_of_nodes-node_views
