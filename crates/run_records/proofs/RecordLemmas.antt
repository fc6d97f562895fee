-- A record that is read has that layout, and from its layout a record is read again.
use Rattle.std.proofs.Common.{◌≡◌, ℕ, ◌^◌, ◌<◌, eqb, Bool, true, false, cond, Option, None, List, [], ◌∷◌, ◌++◌, length, Some, refl, sym, ap, subst, ◌∙◌, append_assoc, append-nil, arith}
use Rattle.std.specs.Int.{w16, w32, w64, to_be_bytes}
use Rattle.std.specs.List.{flat_map}
use Rattle.std.proofs.lemmas.Bool.{eqb-true}
use Rattle.std.proofs.lemmas.List.{nil_from_length}
use Rattle.std.proofs.lemmas.Option.{none-some, option_and_then_some, cond_some}
use Rattle.run_records.specs.declared.record.Record.{Record}
use Rattle.run_records.specs.declared.record.Record.TheVariants.{Begin, Walk, Send, Reply, Expire, Upgrade, Ask, Told}
use Rattle.run_records.specs.Layout.{string, strings, layout}
use Rattle.run_records.specs.Ranges.{most_text, most_status_text, InRange, BeginsInRange, SendsInRange, RepliesInRange, AsksInRange, TellsInRange}
use Rattle.run_records.specs.Fields.{◌>>=◌, number_at, small_at, string_at, text_at, strings_at}
use Rattle.run_records.specs.Reading.{at_end, begin_at, walk_at, send_at, reply_at, expire_at, upgrade_at, ask_at, told_at}
use Rattle.run_records.proofs.Takes.{IsBytes, IsBytes-rest, Takes, Takes-then}
use Rattle.run_records.proofs.FieldLemmas.{wide16, wide32, wide64, number_takes, number_again, small_takes, small_again, string_takes, string_again, text_takes, text_again, strings_take, strings_again}

pub end_some : {A : Type 0} (rest : List ℕ) (value x : A) → at_end rest value ≡ Some x → (rest ≡ []) × (value ≡ x)
end_some rest value x e =
    let g = cond_some (eqb (length rest) 0) value x e in
    (nil_from_length rest (eqb-true _ _ g.0), g.1)

-- all of the bytes
pub whole : (bytes text rest : List ℕ) → Takes bytes text rest → rest ≡ [] → bytes ≡ text
whole bytes text rest t nothing = t.parts ∙ ap (λ (r : List ℕ). text ++ r) nothing ∙ append-nil text

two : (a b : List ℕ) → a ++ b ≡ a ++ (b ++ [])
two a b = ap (λ x. a ++ x) (sym (append-nil b))

four : (a b c d : List ℕ) → ((a ++ b) ++ c) ++ d ≡ a ++ (b ++ (c ++ (d ++ [])))
four a b c d = append_assoc (a ++ b) c d ∙ append_assoc a b (c ++ d) ∙ ap (λ x. a ++ (b ++ (c ++ x))) (sym (append-nil d))

-- a test that was kept
when : {A : Type 0} (b : Bool) (o : Option A) (r : A) → cond b o None ≡ Some r → (b ≡ true) × (o ≡ Some r)
when true o r e = (refl, e)
when false o r e = absurd (none-some r e)

pub five : (a b c d e : List ℕ) → (((a ++ b) ++ c) ++ d) ++ e ≡ a ++ (b ++ (c ++ (d ++ (e ++ []))))
five a b c d e = append_assoc ((a ++ b) ++ c) d e ∙ four a b c (d ++ e) ∙ ap (λ x. a ++ (b ++ (c ++ x))) (append_assoc d e [])

-- ---- what is read

pub begin_takes : (bytes : List ℕ) (r : Record) → IsBytes bytes → begin_at bytes ≡ Some r → InRange r × (1 ∷ bytes ≡ layout r)
unfolding begin_at layout
begin_takes bytes r fits e =
    option_and_then_some _ (number_at w64 bytes) r e λ run is_run e₁.
    option_and_then_some _ (number_at w64 run.1) r e₁ λ moment is_moment e₂.
    option_and_then_some _ (small_at moment.1) r e₂ λ count is_count e₃.
    option_and_then_some _ (strings_at count.0 count.1) r e₃ λ books are_books e₄.
    option_and_then_some _ (string_at most_text books.1) r e₄ λ bind is_bind e₅.
    let done = end_some bind.1 (Begin run.0 moment.0 books.0 bind.0) r e₅ in
    let t0 = number_takes w64 (2 ^ 64) wide64 bytes run fits is_run in
    let t1 = number_takes w64 (2 ^ 64) wide64 run.1 moment t0.0.rest_fits is_moment in
    let t2 = small_takes moment.1 count t1.0.rest_fits is_count in
    let t3 = strings_take count.0 count.1 books t2.0.rest_fits are_books in
    let t4 = string_takes most_text books.1 bind t3.0.rest_fits is_bind in
    let numbers = Takes-then bytes (to_be_bytes w64 run.0) run.1 (to_be_bytes w64 moment.0) moment.1 t0.0 t1.0 in
    let list = Takes-then moment.1 (count.0 ∷ []) count.1 (flat_map string books.0) books.1 t2.0 t3.0 in
    let front = Takes-then bytes (to_be_bytes w64 run.0 ++ to_be_bytes w64 moment.0) moment.1 (count.0 ∷ flat_map string books.0) books.1 numbers list in
    let all = Takes-then bytes ((to_be_bytes w64 run.0 ++ to_be_bytes w64 moment.0) ++ (count.0 ∷ flat_map string books.0)) books.1 (string bind.0) bind.1 front t4.0 in
    let spelled : bytes ≡ to_be_bytes w64 run.0 ++ to_be_bytes w64 moment.0 ++ strings books.0 ++ string bind.0 =
    whole bytes _ bind.1 all done.0 ∙ ap (λ n. (to_be_bytes w64 run.0 ++ to_be_bytes w64 moment.0) ++ (n ∷ flat_map string books.0) ++ string bind.0) (sym t3.1) in
    let range : InRange (Begin run.0 moment.0 books.0 bind.0) = record {
      run_fits = t0.1;
      moment_fits = t1.1;
      some_book = omega (arith, t3.1, t2.1);
      few_books = omega (arith, t3.1, t2.2);
      short_books = t3.2;
      short_bind = t4.1;
    } in
    subst (λ x. InRange x × (1 ∷ bytes ≡ layout x)) done.1 (range, ap (λ b. 1 ∷ b) spelled)

pub walk_takes : (bytes : List ℕ) (r : Record) → IsBytes bytes → walk_at bytes ≡ Some r → InRange r × (2 ∷ bytes ≡ layout r)
unfolding walk_at layout
walk_takes bytes r fits e =
    option_and_then_some _ (number_at w32 bytes) r e λ task is_task e₁.
    option_and_then_some _ (number_at w64 task.1) r e₁ λ moment is_moment e₂.
    let done = end_some moment.1 (Walk task.0 moment.0) r e₂ in
    let t0 = number_takes w32 (2 ^ 32) wide32 bytes task fits is_task in
    let t1 = number_takes w64 (2 ^ 64) wide64 task.1 moment t0.0.rest_fits is_moment in
    let all = Takes-then bytes (to_be_bytes w32 task.0) task.1 (to_be_bytes w64 moment.0) moment.1 t0.0 t1.0 in
    subst (λ x. InRange x × (2 ∷ bytes ≡ layout x)) done.1 ((t0.1, t1.1), ap (λ b. 2 ∷ b) (whole bytes _ moment.1 all done.0))

pub send_takes : (bytes : List ℕ) (r : Record) → IsBytes bytes → send_at bytes ≡ Some r → InRange r × (3 ∷ bytes ≡ layout r)
unfolding send_at layout
send_takes bytes r fits e =
    option_and_then_some _ (number_at w32 bytes) r e λ task is_task e₁.
    option_and_then_some _ (number_at w32 task.1) r e₁ λ issue is_issue e₂.
    option_and_then_some _ (small_at issue.1) r e₂ λ agent is_agent e₃.
    option_and_then_some _ (number_at w64 agent.1) r e₃ λ moment is_moment e₄.
    option_and_then_some _ (string_at most_text moment.1) r e₄ λ command is_command e₅.
    let done = end_some command.1 (Send task.0 issue.0 agent.0 moment.0 command.0) r e₅ in
    let t0 = number_takes w32 (2 ^ 32) wide32 bytes task fits is_task in
    let t1 = number_takes w32 (2 ^ 32) wide32 task.1 issue t0.0.rest_fits is_issue in
    let t2 = small_takes issue.1 agent t1.0.rest_fits is_agent in
    let t3 = number_takes w64 (2 ^ 64) wide64 agent.1 moment t2.0.rest_fits is_moment in
    let t4 = string_takes most_text moment.1 command t3.0.rest_fits is_command in
    let first = Takes-then bytes (to_be_bytes w32 task.0) task.1 (to_be_bytes w32 issue.0) issue.1 t0.0 t1.0 in
    let second = Takes-then bytes _ issue.1 (agent.0 ∷ []) agent.1 first t2.0 in
    let third = Takes-then bytes _ agent.1 (to_be_bytes w64 moment.0) moment.1 second t3.0 in
    let all = Takes-then bytes _ moment.1 (string command.0) command.1 third t4.0 in
    let range : InRange (Send task.0 issue.0 agent.0 moment.0 command.0) = record {
      task_fits = t0.1;
      issue_fits = t1.1;
      some_agent = t2.1;
      last_agent = t2.2;
      moment_fits = t3.1;
      short_bytes = t4.1;
    } in
    subst (λ x. InRange x × (3 ∷ bytes ≡ layout x)) done.1 (range, ap (λ b. 3 ∷ b) (whole bytes _ command.1 all done.0))

pub reply_takes : (bytes : List ℕ) (r : Record) → IsBytes bytes → reply_at bytes ≡ Some r → InRange r × (4 ∷ bytes ≡ layout r)
unfolding reply_at layout
reply_takes bytes r fits e =
    option_and_then_some _ (number_at w32 bytes) r e λ issue is_issue e₁.
    option_and_then_some _ (number_at w64 issue.1) r e₁ λ moment is_moment e₂.
    option_and_then_some _ (number_at w16 moment.1) r e₂ λ status is_status e₃.
    option_and_then_some _ (number_at w32 status.1) r e₃ λ rule is_rule e₄.
    option_and_then_some _ (text_at most_status_text rule.1) r e₄ λ text is_text e₅.
    let done = end_some text.1 (Reply issue.0 moment.0 status.0 rule.0 text.0) r e₅ in
    let t0 = number_takes w32 (2 ^ 32) wide32 bytes issue fits is_issue in
    let t1 = number_takes w64 (2 ^ 64) wide64 issue.1 moment t0.0.rest_fits is_moment in
    let t2 = number_takes w16 (2 ^ 16) wide16 moment.1 status t1.0.rest_fits is_status in
    let t3 = number_takes w32 (2 ^ 32) wide32 status.1 rule t2.0.rest_fits is_rule in
    let t4 = text_takes most_status_text rule.1 text t3.0.rest_fits is_text in
    let first = Takes-then bytes (to_be_bytes w32 issue.0) issue.1 (to_be_bytes w64 moment.0) moment.1 t0.0 t1.0 in
    let second = Takes-then bytes _ moment.1 (to_be_bytes w16 status.0) status.1 first t2.0 in
    let third = Takes-then bytes _ status.1 (to_be_bytes w32 rule.0) rule.1 second t3.0 in
    let all = Takes-then bytes _ rule.1 (string text.0) text.1 third t4.0 in
    let range : InRange (Reply issue.0 moment.0 status.0 rule.0 text.0) = record {
      issue_fits = t0.1;
      moment_fits = t1.1;
      status_fits = t2.1;
      rule_fits = t3.1;
      short_text = t4.1;
      text_is_utf8 = t4.2;
    } in
    subst (λ x. InRange x × (4 ∷ bytes ≡ layout x)) done.1 (range, ap (λ b. 4 ∷ b) (whole bytes _ text.1 all done.0))

pub expire_takes : (bytes : List ℕ) (r : Record) → IsBytes bytes → expire_at bytes ≡ Some r → InRange r × (5 ∷ bytes ≡ layout r)
unfolding expire_at layout
expire_takes bytes r fits e =
    option_and_then_some _ (number_at w32 bytes) r e λ issue is_issue e₁.
    option_and_then_some _ (number_at w64 issue.1) r e₁ λ moment is_moment e₂.
    let done = end_some moment.1 (Expire issue.0 moment.0) r e₂ in
    let t0 = number_takes w32 (2 ^ 32) wide32 bytes issue fits is_issue in
    let t1 = number_takes w64 (2 ^ 64) wide64 issue.1 moment t0.0.rest_fits is_moment in
    let all = Takes-then bytes (to_be_bytes w32 issue.0) issue.1 (to_be_bytes w64 moment.0) moment.1 t0.0 t1.0 in
    subst (λ x. InRange x × (5 ∷ bytes ≡ layout x)) done.1 ((t0.1, t1.1), ap (λ b. 5 ∷ b) (whole bytes _ moment.1 all done.0))

pub upgrade_takes : (bytes : List ℕ) (r : Record) → IsBytes bytes → upgrade_at bytes ≡ Some r → InRange r × (6 ∷ bytes ≡ layout r)
unfolding upgrade_at layout
upgrade_takes [] r fits e = absurd (none-some r e)
upgrade_takes (version ∷ bytes) r fits e =
    let asked = when (eqb version 2) (number_at w64 bytes >>= λ moment. at_end moment.1 (Upgrade version moment.0)) r e in
    option_and_then_some _ (number_at w64 bytes) r asked.1 λ moment is_moment e₁.
    let done = end_some moment.1 (Upgrade version moment.0) r e₁ in
    let t0 = number_takes w64 (2 ^ 64) wide64 bytes moment (IsBytes-rest version bytes fits) is_moment in
    subst (λ x. InRange x × (6 ∷ version ∷ bytes ≡ layout x)) done.1 ((eqb-true version 2 asked.0, t0.1), ap (λ b. 6 ∷ version ∷ b) (whole bytes _ moment.1 t0.0 done.0))

pub ask_takes : (bytes : List ℕ) (r : Record) → IsBytes bytes → ask_at bytes ≡ Some r → InRange r × (7 ∷ bytes ≡ layout r)
unfolding ask_at layout
ask_takes bytes r fits e =
    option_and_then_some _ (number_at w32 bytes) r e λ task is_task e₁.
    option_and_then_some _ (number_at w32 task.1) r e₁ λ issue is_issue e₂.
    option_and_then_some _ (number_at w64 issue.1) r e₂ λ moment is_moment e₃.
    option_and_then_some _ (text_at most_text moment.1) r e₃ λ text is_text e₄.
    let done = end_some text.1 (Ask task.0 issue.0 moment.0 text.0) r e₄ in
    let t0 = number_takes w32 (2 ^ 32) wide32 bytes task fits is_task in
    let t1 = number_takes w32 (2 ^ 32) wide32 task.1 issue t0.0.rest_fits is_issue in
    let t2 = number_takes w64 (2 ^ 64) wide64 issue.1 moment t1.0.rest_fits is_moment in
    let t3 = text_takes most_text moment.1 text t2.0.rest_fits is_text in
    let first = Takes-then bytes (to_be_bytes w32 task.0) task.1 (to_be_bytes w32 issue.0) issue.1 t0.0 t1.0 in
    let second = Takes-then bytes _ issue.1 (to_be_bytes w64 moment.0) moment.1 first t2.0 in
    let all = Takes-then bytes _ moment.1 (string text.0) text.1 second t3.0 in
    let range : InRange (Ask task.0 issue.0 moment.0 text.0) = record {
      task_fits = t0.1;
      issue_fits = t1.1;
      moment_fits = t2.1;
      short_text = t3.1;
      text_is_utf8 = t3.2;
    } in
    subst (λ x. InRange x × (7 ∷ bytes ≡ layout x)) done.1 (range, ap (λ b. 7 ∷ b) (whole bytes _ text.1 all done.0))

pub told_takes : (bytes : List ℕ) (r : Record) → IsBytes bytes → told_at bytes ≡ Some r → InRange r × (8 ∷ bytes ≡ layout r)
unfolding told_at layout
told_takes bytes r fits e =
    option_and_then_some _ (number_at w32 bytes) r e λ issue is_issue e₁.
    option_and_then_some _ (number_at w64 issue.1) r e₁ λ moment is_moment e₂.
    option_and_then_some _ (number_at w16 moment.1) r e₂ λ status is_status e₃.
    option_and_then_some _ (text_at most_status_text status.1) r e₃ λ text is_text e₄.
    let done = end_some text.1 (Told issue.0 moment.0 status.0 text.0) r e₄ in
    let t0 = number_takes w32 (2 ^ 32) wide32 bytes issue fits is_issue in
    let t1 = number_takes w64 (2 ^ 64) wide64 issue.1 moment t0.0.rest_fits is_moment in
    let t2 = number_takes w16 (2 ^ 16) wide16 moment.1 status t1.0.rest_fits is_status in
    let t3 = text_takes most_status_text status.1 text t2.0.rest_fits is_text in
    let first = Takes-then bytes (to_be_bytes w32 issue.0) issue.1 (to_be_bytes w64 moment.0) moment.1 t0.0 t1.0 in
    let second = Takes-then bytes _ moment.1 (to_be_bytes w16 status.0) status.1 first t2.0 in
    let all = Takes-then bytes _ status.1 (string text.0) text.1 second t3.0 in
    let range : InRange (Told issue.0 moment.0 status.0 text.0) = record {
      issue_fits = t0.1;
      moment_fits = t1.1;
      status_fits = t2.1;
      short_text = t3.1;
      text_is_utf8 = t3.2;
    } in
    subst (λ x. InRange x × (8 ∷ bytes ≡ layout x)) done.1 (range, ap (λ b. 8 ∷ b) (whole bytes _ text.1 all done.0))

-- ---- what is read again

pub begin_again : (run moment : ℕ) (books : List (List ℕ)) (bind : List ℕ) → BeginsInRange run moment books bind → begin_at (to_be_bytes w64 run ++ to_be_bytes w64 moment ++ strings books ++ string bind) ≡ Some (Begin run moment books bind)
unfolding begin_at
begin_again run moment books bind h =
    ap begin_at (four (to_be_bytes w64 run) (to_be_bytes w64 moment) (strings books) (string bind))
    ∙ rw (
      number_again w64 (2 ^ 64) wide64 run _ h.run_fits,
      number_again w64 (2 ^ 64) wide64 moment _ h.moment_fits,
      small_again (length books) _ h.some_book h.few_books,
      strings_again books _ h.short_books,
      string_again most_text bind [] (omega arith) h.short_bind,
    ) refl

pub walk_again : (task moment : ℕ) → task < 2 ^ 32 → moment < 2 ^ 64 → walk_at (to_be_bytes w32 task ++ to_be_bytes w64 moment) ≡ Some (Walk task moment)
unfolding walk_at
walk_again task moment lt lm =
    ap walk_at (two (to_be_bytes w32 task) (to_be_bytes w64 moment))
    ∙ rw (number_again w32 (2 ^ 32) wide32 task _ lt, number_again w64 (2 ^ 64) wide64 moment [] lm) refl

pub expire_again : (issue moment : ℕ) → issue < 2 ^ 32 → moment < 2 ^ 64 → expire_at (to_be_bytes w32 issue ++ to_be_bytes w64 moment) ≡ Some (Expire issue moment)
unfolding expire_at
expire_again issue moment li lm =
    ap expire_at (two (to_be_bytes w32 issue) (to_be_bytes w64 moment))
    ∙ rw (number_again w32 (2 ^ 32) wide32 issue _ li, number_again w64 (2 ^ 64) wide64 moment [] lm) refl

pub send_again : (task issue agent moment : ℕ) (bytes : List ℕ) → SendsInRange task issue agent moment bytes → send_at (to_be_bytes w32 task ++ to_be_bytes w32 issue ++ agent ∷ [] ++ to_be_bytes w64 moment ++ string bytes) ≡ Some (Send task issue agent moment bytes)
unfolding send_at
send_again task issue agent moment bytes h =
    ap send_at (five (to_be_bytes w32 task) (to_be_bytes w32 issue) (agent ∷ []) (to_be_bytes w64 moment) (string bytes))
    ∙ rw (
      number_again w32 (2 ^ 32) wide32 task _ h.task_fits,
      number_again w32 (2 ^ 32) wide32 issue _ h.issue_fits,
      small_again agent _ h.some_agent h.last_agent,
      number_again w64 (2 ^ 64) wide64 moment _ h.moment_fits,
      string_again most_text bytes [] (omega arith) h.short_bytes,
    ) refl

pub reply_again : (issue moment status rule : ℕ) (text : List ℕ) → RepliesInRange issue moment status rule text → reply_at (to_be_bytes w32 issue ++ to_be_bytes w64 moment ++ to_be_bytes w16 status ++ to_be_bytes w32 rule ++ string text) ≡ Some (Reply issue moment status rule text)
unfolding reply_at
reply_again issue moment status rule text h =
    ap reply_at (five (to_be_bytes w32 issue) (to_be_bytes w64 moment) (to_be_bytes w16 status) (to_be_bytes w32 rule) (string text))
    ∙ rw (
      number_again w32 (2 ^ 32) wide32 issue _ h.issue_fits,
      number_again w64 (2 ^ 64) wide64 moment _ h.moment_fits,
      number_again w16 (2 ^ 16) wide16 status _ h.status_fits,
      number_again w32 (2 ^ 32) wide32 rule _ h.rule_fits,
      text_again most_status_text text [] (omega arith) h.short_text h.text_is_utf8,
    ) refl

pub upgrade_again : (moment : ℕ) → moment < 2 ^ 64 → upgrade_at (2 ∷ to_be_bytes w64 moment) ≡ Some (Upgrade 2 moment)
unfolding upgrade_at
upgrade_again moment lm =
    ap (λ b. upgrade_at (2 ∷ b)) (sym (append-nil (to_be_bytes w64 moment)))
    ∙ rw (number_again w64 (2 ^ 64) wide64 moment [] lm) refl

pub ask_again : (task issue moment : ℕ) (text : List ℕ) → AsksInRange task issue moment text → ask_at (to_be_bytes w32 task ++ to_be_bytes w32 issue ++ to_be_bytes w64 moment ++ string text) ≡ Some (Ask task issue moment text)
unfolding ask_at
ask_again task issue moment text h =
    ap ask_at (four (to_be_bytes w32 task) (to_be_bytes w32 issue) (to_be_bytes w64 moment) (string text))
    ∙ rw (
      number_again w32 (2 ^ 32) wide32 task _ h.task_fits,
      number_again w32 (2 ^ 32) wide32 issue _ h.issue_fits,
      number_again w64 (2 ^ 64) wide64 moment _ h.moment_fits,
      text_again most_text text [] (omega arith) h.short_text h.text_is_utf8,
    ) refl

pub told_again : (issue moment status : ℕ) (text : List ℕ) → TellsInRange issue moment status text → told_at (to_be_bytes w32 issue ++ to_be_bytes w64 moment ++ to_be_bytes w16 status ++ string text) ≡ Some (Told issue moment status text)
unfolding told_at
told_again issue moment status text h =
    ap told_at (four (to_be_bytes w32 issue) (to_be_bytes w64 moment) (to_be_bytes w16 status) (string text))
    ∙ rw (
      number_again w32 (2 ^ 32) wide32 issue _ h.issue_fits,
      number_again w64 (2 ^ 64) wide64 moment _ h.moment_fits,
      number_again w16 (2 ^ 16) wide16 status _ h.status_fits,
      text_again most_status_text text [] (omega arith) h.short_text h.text_is_utf8,
    ) refl
