use Rattle.std.proofs.Common.{ℕ, List, Bool, [], inl, inr, Contains}
use Rattle.base_graphs.specs.Closure.{Closure}
use Rattle.base_graphs.specs.Tables.{Leads, row}
use Rattle.base_graphs.proofs.ClosureLemmas.{closure_map}
use Rattle.base_graphs.proofs.MarkLemmas.{Contains-nil}
use Rattle.base_graphs.proofs.searching.reached.Goals as goal

-- no guarded edges
free_alone : (edges : List (List ℕ)) (begin : List ℕ) (shut blocked : List Bool) (p : ℕ) → Closure (Contains begin) (Leads edges [] shut blocked) p → Closure (Contains begin) (λ from to. Contains (row edges from) to) p
free_alone edges begin shut blocked p = closure_map (Contains begin) (Contains begin) (Leads edges [] shut blocked) (λ from to. Contains (row edges from) to) (λ q h. h) (λ from to l. elim l [ inl x ↦ x | inr y ↦ absurd (Contains-nil to y.1) ]) p

as_free : (edges : List (List ℕ)) (begin : List ℕ) (shut blocked : List Bool) (p : ℕ) → Closure (Contains begin) (λ from to. Contains (row edges from) to) p → Closure (Contains begin) (Leads edges [] shut blocked) p
as_free edges begin shut blocked p = closure_map (Contains begin) (Contains begin) (λ from to. Contains (row edges from) to) (Leads edges [] shut blocked) (λ q h. h) (λ from to x. inl x) p

pub returns-clause-exact : goal.returns-clause-exact
returns-clause-exact c p =
    let exact = c.in_ok-marks.ensures.exact p in
    (λ m. free_alone c.args.edges.now c.args.first.now c.new-none.result c.new-none.result p (exact.0 m), λ h. exact.1 (as_free c.args.edges.now c.args.first.now c.new-none.result c.new-none.result p h))
