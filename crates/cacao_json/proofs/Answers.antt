-- Each cause leads to its answer.
use Rattle.std.proofs.Common.{◌≡◌, ◌<◌, ℕ, List, Bool, true, false, Option, Some, None, Result, Ok, Err, nat_lt, refl, sym, ap, ◌∙◌, arith}
use Rattle.std.specs.Prelude.{IfOk, IfErr, if◌then◌else◌}
use Rattle.std.proofs.lemmas.Bool.{ltb-true, lt-ltb}
use Rattle.serde_json.specs.Data.{Data}
use Rattle.cacao_json.specs.declared.tree.Tree.{Tree}
use Rattle.cacao_json.specs.declared.error.JsonError.{JsonError}
use Rattle.cacao_json.specs.declared.error.JsonError.TheVariants.{NotJson, RepeatedName, NotWhole, Memory}
use Rattle.cacao_json.specs.Tree.{data_of}
use Rattle.cacao_json_counts.specs.Counts.{colons, members, numbers, first_broken}
use Rattle.cacao_json.specs.Reading.{reading, tree}
use Rattle.cacao_json.specs.Refusals.{RefusesText, if_whole, if_read, answer, IsAnswerOrMemory}
use Rattle.cacao_json.proofs.Readings.{HasTree-from_tree}

repeated : (b : Bool) (x y : Result Data JsonError) → b ≡ true → (if b then x else y) ≡ x
repeated true x y e = refl
repeated false x y e = absurd (cc)

single : (b : Bool) (x y : Result Data JsonError) → (b ≡ true → ⊥) → (if b then x else y) ≡ y
single true x y h = absurd (h refl)
single false x y h = refl

answer-whole : (bytes : List ℕ) (d : Data) (o : Option ℕ) → reading bytes ≡ Some d → colons bytes ≡ members d → first_broken (numbers d) ≡ o → answer bytes ≡ if_whole d o
answer-whole bytes d o reads same first =
    ap (if_read (colons bytes)) reads
    ∙ single (nat_lt (members d) (colons bytes)) (Err (RepeatedName (colons bytes) (members d))) (if_whole d (first_broken (numbers d))) (λ t. omega (arith, ltb-true _ _ t, same))
    ∙ ap (if_whole d) first

answer-repeated : (bytes : List ℕ) (d : Data) (c m : ℕ) → reading bytes ≡ Some d → c ≡ colons bytes → m ≡ members d → m < c → answer bytes ≡ Err (RepeatedName c m)
answer-repeated bytes d c m reads cs ms more =
    let fewer : members d < colons bytes = omega arith in
    let below = lt-ltb (members d) (colons bytes) fewer in
    ap (if_read (colons bytes)) reads
    ∙ repeated (nat_lt (members d) (colons bytes)) (Err (RepeatedName (colons bytes) (members d))) (if_whole d (first_broken (numbers d))) below
    ∙ ap (λ n. Err (RepeatedName n (members d))) (sym cs) ∙ ap (λ n. Err (RepeatedName c n)) (sym ms)

by_cause : (bytes : List ℕ) (e : JsonError) → RefusesText bytes e → IsAnswerOrMemory (Err e) (answer bytes)
by_cause bytes NotJson h = ap (if_read (colons bytes)) h
by_cause bytes (RepeatedName c m) h = answer-repeated bytes h.0 c m h.1 h.2 h.3 h.4
by_cause bytes (NotWhole i) h = answer-whole bytes h.0 (Some i) h.1 h.2.0 h.2.1
by_cause bytes Memory h = tt

-- a result with its cause is the one answer
pub is_answer : (bytes : List ℕ) (r : Result Tree JsonError) → IfOk r (λ t. tree bytes ≡ Some (data_of t)) → IfErr r (RefusesText bytes) → IsAnswerOrMemory r (answer bytes)
is_answer bytes (Ok t) h w = let k = HasTree-from_tree bytes (data_of t) h in answer-whole bytes (data_of t) None k.reads k.same k.whole
is_answer bytes (Err e) h w = by_cause bytes e w
