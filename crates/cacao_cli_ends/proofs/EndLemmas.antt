-- The status and the line of an end.
use Rattle.std.proofs.Common.{◌≡◌, ◌∙◌, refl, ap, arith, ℕ, List, [], ◌∷◌, ◌++◌, Option, Some, None}
use Rattle.cacao_site.specs.View.{SiteView}
use Rattle.cacao_cli_words.specs.Words.{Text}
use Rattle.cacao_cli_ends.specs.Ends.{End, status_of, text_of, done, accepted, refused, not_understood, past, shelf_failed, no_such_file, not_readable, agrees, disagrees, rehearsed, damaged, peers_failed, disk_failed, unsaid, no_memory, bind_refused, ended_ok, ended_failed, paused, waiting, flooded, asked_for, other_run, other_book, run_used}
use Rattle.cacao_cli_ends.specs.Lines.{Tells, TellsText}

-- ---- the status and the line of an end

pub end-unsaid : (end : End) → status_of end ≡ 9 → text_of end ≡ None
end-unsaid done e = refl
end-unsaid accepted e = absurd (omega (arith, e))
end-unsaid (refused broken) e = absurd (omega (arith, e))
end-unsaid (bind_refused rule) e = absurd (omega (arith, e))
end-unsaid ended_ok e = absurd (omega (arith, e))
end-unsaid ended_failed e = absurd (omega (arith, e))
end-unsaid paused e = absurd (omega (arith, e))
end-unsaid (waiting moment) e = absurd (omega (arith, e))
end-unsaid flooded e = absurd (omega (arith, e))
end-unsaid (asked_for issue) e = absurd (omega (arith, e))
end-unsaid (other_run held asked) e = absurd (omega (arith, e))
end-unsaid (other_book index) e = absurd (omega (arith, e))
end-unsaid (run_used agent) e = absurd (omega (arith, e))
end-unsaid not_understood e = absurd (omega (arith, e))
end-unsaid (past limit) e = absurd (omega (arith, e))
end-unsaid (shelf_failed name) e = absurd (omega (arith, e))
end-unsaid (no_such_file name) e = absurd (omega (arith, e))
end-unsaid (not_readable name reason) e = absurd (omega (arith, e))
end-unsaid (agrees records acts) e = absurd (omega (arith, e))
end-unsaid (disagrees file place) e = absurd (omega (arith, e))
end-unsaid (rehearsed positions records acts rules) e = absurd (omega (arith, e))
end-unsaid (damaged file place) e = absurd (omega (arith, e))
end-unsaid peers_failed e = absurd (omega (arith, e))
end-unsaid disk_failed e = absurd (omega (arith, e))
end-unsaid unsaid e = refl
end-unsaid no_memory e = refl

pub end-memory : (end : End) → status_of end ≡ 10 → text_of end ≡ None
end-memory done e = refl
end-memory accepted e = absurd (omega (arith, e))
end-memory (refused broken) e = absurd (omega (arith, e))
end-memory (bind_refused rule) e = absurd (omega (arith, e))
end-memory ended_ok e = absurd (omega (arith, e))
end-memory ended_failed e = absurd (omega (arith, e))
end-memory paused e = absurd (omega (arith, e))
end-memory (waiting moment) e = absurd (omega (arith, e))
end-memory flooded e = absurd (omega (arith, e))
end-memory (asked_for issue) e = absurd (omega (arith, e))
end-memory (other_run held asked) e = absurd (omega (arith, e))
end-memory (other_book index) e = absurd (omega (arith, e))
end-memory (run_used agent) e = absurd (omega (arith, e))
end-memory not_understood e = absurd (omega (arith, e))
end-memory (past limit) e = absurd (omega (arith, e))
end-memory (shelf_failed name) e = absurd (omega (arith, e))
end-memory (no_such_file name) e = absurd (omega (arith, e))
end-memory (not_readable name reason) e = absurd (omega (arith, e))
end-memory (agrees records acts) e = absurd (omega (arith, e))
end-memory (disagrees file place) e = absurd (omega (arith, e))
end-memory (rehearsed positions records acts rules) e = absurd (omega (arith, e))
end-memory (damaged file place) e = absurd (omega (arith, e))
end-memory peers_failed e = absurd (omega (arith, e))
end-memory disk_failed e = absurd (omega (arith, e))
end-memory unsaid e = refl
end-memory no_memory e = refl

pub end-failed : (end : End) → status_of end ≡ 3 → (name : Text) × (end ≡ shelf_failed name)
end-failed done e = absurd (omega (arith, e))
end-failed accepted e = absurd (omega (arith, e))
end-failed (refused broken) e = absurd (omega (arith, e))
end-failed (bind_refused rule) e = absurd (omega (arith, e))
end-failed ended_ok e = absurd (omega (arith, e))
end-failed ended_failed e = absurd (omega (arith, e))
end-failed paused e = absurd (omega (arith, e))
end-failed (waiting moment) e = absurd (omega (arith, e))
end-failed flooded e = absurd (omega (arith, e))
end-failed (asked_for issue) e = absurd (omega (arith, e))
end-failed (other_run held asked) e = absurd (omega (arith, e))
end-failed (other_book index) e = absurd (omega (arith, e))
end-failed (run_used agent) e = absurd (omega (arith, e))
end-failed not_understood e = absurd (omega (arith, e))
end-failed (past limit) e = absurd (omega (arith, e))
end-failed (shelf_failed name) e = (name, refl)
end-failed (no_such_file name) e = absurd (omega (arith, e))
end-failed (not_readable name reason) e = absurd (omega (arith, e))
end-failed (agrees records acts) e = absurd (omega (arith, e))
end-failed (disagrees file place) e = absurd (omega (arith, e))
end-failed (rehearsed positions records acts rules) e = absurd (omega (arith, e))
end-failed (damaged file place) e = absurd (omega (arith, e))
end-failed peers_failed e = absurd (omega (arith, e))
end-failed disk_failed e = absurd (omega (arith, e))
end-failed unsaid e = absurd (omega (arith, e))
end-failed no_memory e = absurd (omega (arith, e))

-- nothing stands behind an end without a line
pub no-more : (last end : End) (mid new : SiteView) (answer : ℕ) → last ≡ end → text_of end ≡ None → Tells last mid new answer → (new ≡ mid) × (answer ≡ status_of end)
no-more last end mid new answer is none h = go (text_of last) (ap text_of is ∙ none) h
  where
    go : (text : Option Text) → text ≡ None → TellsText last text mid new answer → (new ≡ mid) × (answer ≡ status_of end)
    go None e h = (h.same, h.answers ∙ ap status_of is)
    go (Some text) e h = absurd (cc)

pub no_cons : (front behind : List Text) (first line : Text) → [] ≡ front ++ line ∷ behind → ⊥
no_cons [] behind first line e = cc
no_cons (x ∷ front) behind first line e = cc
