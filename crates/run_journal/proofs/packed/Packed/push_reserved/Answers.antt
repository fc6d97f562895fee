-- The list before, and one more.
use Rattle.std.proofs.Common.{◌≡◌, ◌+◌, ◌++◌, ◌∷◌, [], List, ℕ, length, ap, sym, ◌∙◌, subst, arith, rules, length-append}
use Rattle.run_journal.specs.PackedView.{PackedView, total}
use Rattle.run_journal.specs.Packed.{parts, AreEnds}
use Rattle.run_journal.proofs.PackedLemmas.{size_of_all, ends_push, parts_push}
use Rattle.run_journal.proofs.packed.Packed.push_reserved.Goals as goal

pub overflow_cast-end : goal.overflow_cast-end
overflow_cast-end c =
    let joined : c.extend_from_slice.new.self.items ≡ c.self.inside.bytes.items ++ c.args.item.now = search rules in
    let is : total (parts 0 c.self.inside.ends.items c.self.inside.bytes.items) ≡ total c.args.self.now.items = ap (λ (v : PackedView). total v.items) c.self.view_is in
    omega (arith, is, size_of_all 0 c.self.inside.ends.items c.self.inside.bytes.items c.self.invariant, c.requires.fits, c.len-end.ensures, ap length joined, length-append c.self.inside.bytes.items c.args.item.now)

pub invariant_of-self : goal.invariant_of-self
invariant_of-self c =
    let joined : c.extend_from_slice.new.self.items ≡ c.self.inside.bytes.items ++ c.args.item.now = search rules in
    let long = length-append c.self.inside.bytes.items c.args.item.now in
    let end : c.len-end.result ≡ length c.extend_from_slice.new.self.items = omega (arith, c.len-end.ensures) in
    let ends : AreEnds 0 (c.self.inside.ends.items ++ c.len-end.result ∷ []) c.len-end.result =
    ends_push 0 c.self.inside.ends.items (length c.self.inside.bytes.items) c.len-end.result c.self.invariant (omega (arith, end, ap length joined, long)) in
    subst (λ (l : List ℕ). AreEnds 0 l (length c.extend_from_slice.new.self.items)) (sym c.push_reserved.ensures.items)
    (subst (λ n. AreEnds 0 (c.self.inside.ends.items ++ c.len-end.result ∷ []) n) end ends)

pub returns : goal.returns
returns c =
    let joined : c.extend_from_slice.new.self.items ≡ c.self.inside.bytes.items ++ c.args.item.now = search rules in
    let end : c.len-end.result ≡ length c.self.inside.bytes.items + length c.args.item.now = omega (arith, c.len-end.ensures, ap length joined, length-append c.self.inside.bytes.items c.args.item.now) in
    ap (λ (l : List ℕ). parts 0 l c.extend_from_slice.new.self.items) c.push_reserved.ensures.items
    ∙ ap (λ (l : List ℕ). parts 0 (c.self.inside.ends.items ++ c.len-end.result ∷ []) l) joined
    ∙ parts_push 0 c.self.inside.ends.items c.self.inside.bytes.items c.args.item.now c.len-end.result c.self.invariant end
    ∙ ap (λ (v : PackedView). v.items ++ c.args.item.now ∷ []) c.self.view_is
