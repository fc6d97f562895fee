use Rattle.std.proofs.Common.{ℕ, ◌+◌, ◌-◌, ◌<◌, ◌≤◌, List, length, drop, take, sym, subst, ◌∙◌, arith}
use Rattle.std.proofs.lemmas.List.{take_rest, length-drop}
use Rattle.memchr.specs.Find.{Nowhere, NoneBefore}
use Rattle.cacao_json_counts.proofs.Strings.{IsStop, plain_to_end, quote_ends, backslash_goes_on, backslash_ends, none_behind, other_stop}
use Rattle.cacao_json_counts.proofs.count.string_end.Goals as goal

-- the stop that was found, in what is left
abbrev Found : List ℕ → ℕ → Type 0
Found rest plain_bytes = NoneBefore (IsStop rest) 0 (length rest) plain_bytes × IsStop rest plain_bytes

found : (bytes : List ℕ) (place plain_bytes : ℕ) → Found (take (length bytes - place) (drop place bytes)) plain_bytes → Found (drop place bytes) plain_bytes
found bytes place plain_bytes w = subst (λ r. Found r plain_bytes) (take_rest bytes place) w

within : (bytes : List ℕ) (place plain_bytes : ℕ) → place ≤ length bytes → Found (drop place bytes) plain_bytes → place + plain_bytes < length bytes
within bytes place plain_bytes h w = omega (arith, h, w.0.high, length-drop place bytes)

pub returns-then-bytes-stop-eq34-clause-value : goal.returns-then-bytes-stop-eq34-clause-value
returns-then-bytes-stop-eq34-clause-value c =
    let bytes = c.args.bytes.now in
    let place = c.loop-plain.place in
    let w = found bytes place c.in-Some.plain c.in-Some.ensures in
    c.loop-plain.invariant.2 ∙ quote_ends bytes place c.in-Some.plain w.0 (within bytes place c.in-Some.plain c.loop-plain.invariant.1 w) c.if-bytes-stop-eq34.true

pub returns-then-bytes-stop-eq1-clause-value : goal.returns-then-bytes-stop-eq1-clause-value
returns-then-bytes-stop-eq1-clause-value c =
    let bytes = c.args.bytes.now in
    let place = c.loop-plain.place in
    let w = found bytes place c.in-Some.plain c.in-Some.ensures in
    let below = within bytes place c.in-Some.plain c.loop-plain.invariant.1 w in
    c.loop-plain.invariant.2 ∙ backslash_ends bytes place c.in-Some.plain w.0 below (other_stop bytes place c.in-Some.plain w.1 c.if-bytes-stop-eq34.false) c.if-bytes-stop-eq1.true ∙ sym (none_behind bytes)

pub loop-plain-preserved : goal.loop-plain-preserved
loop-plain-preserved c =
    let bytes = c.args.bytes.now in
    let place = c.loop-plain.place in
    let w = found bytes place c.in-Some.plain c.in-Some.ensures in
    let below = within bytes place c.in-Some.plain c.loop-plain.invariant.1 w in (
      omega (arith, c.loop-plain.invariant.0),
      omega (arith, below, c.if-bytes-stop-eq1.false),
      c.loop-plain.invariant.2 ∙ backslash_goes_on bytes place c.in-Some.plain w.0 below (other_stop bytes place c.in-Some.plain w.1 c.if-bytes-stop-eq34.false),
    )

pub returns-clause-value : goal.returns-clause-value
returns-clause-value c =
    let bytes = c.args.bytes.now in
    let place = c.loop-plain.place in
    c.loop-plain.invariant.2 ∙ plain_to_end bytes place (subst (λ r. Nowhere (IsStop r) 0 (length r)) (take_rest bytes place) c.in_default.ensures) ∙ sym (none_behind bytes)
