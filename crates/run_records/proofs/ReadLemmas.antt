-- The laws of reading: what is read has that layout, and from its layout each value is read again.
use Rattle.std.proofs.Common.{◌≡◌, ◌≢◌, ℕ, ◌^◌, Bool, true, false, cond, eqb, leb, List, [], ◌∷◌, Option, Some, None, Result, Ok, Err, refl, sym, ap, subst, ◌∙◌, arith}
use Rattle.std.specs.Prelude.{IfSome, IfNone, IfOk}
use Rattle.std.specs.Int.{w32, w64, to_be_bytes}
use Rattle.std.proofs.lemmas.Bool.{eqb-true, leb-true, le-leb}
use Rattle.std.proofs.lemmas.Option.{none-some, option_and_then_some}
use Rattle.run_records.specs.declared.record.Record.{Record}
use Rattle.run_records.specs.declared.record.Record.TheVariants.{Begin, Walk, Send, Reply, Expire, Upgrade, Ask, Told}
use Rattle.run_records.specs.declared.act.Act.{Act}
use Rattle.run_records.specs.Layout.{string, layout, act_layout}
use Rattle.run_records.specs.Ranges.{most_text, last_moment, InRange, ActInRange}
use Rattle.run_records.specs.Fields.{number_at, string_at}
use Rattle.run_records.specs.Reading.{at_end, record_of, act_at, act_of}
use Rattle.run_records.proofs.Takes.{IsBytes, IsBytes-rest, Takes-then}
use Rattle.run_records.proofs.FieldLemmas.{wide32, wide64, number_takes, number_again, string_takes, string_again}
use Rattle.run_records.proofs.RecordLemmas.{end_some, whole, five, begin_takes, walk_takes, send_takes, reply_takes, expire_takes, upgrade_takes, ask_takes, told_takes, begin_again, walk_again, send_again, reply_again, expire_again, upgrade_again, ask_again, told_again}

-- which way a test went
chosen : {A : Type 0} (b : Bool) (x y : Option A) (z : A) (P : Type 0) → cond b x y ≡ Some z → (b ≡ true → x ≡ Some z → P) → (y ≡ Some z → P) → P
chosen true x y z P e first other = first refl e
chosen false x y z P e first other = other e

tagged : (tag n : ℕ) (bytes : List ℕ) (r : Record) → eqb tag n ≡ true → InRange r × (n ∷ bytes ≡ layout r) → InRange r × (tag ∷ bytes ≡ layout r)
tagged tag n bytes r e h = (h.0, ap (λ t. t ∷ bytes) (eqb-true tag n e) ∙ h.1)

pub record_takes : (bytes : List ℕ) (r : Record) → IsBytes bytes → record_of bytes ≡ Some r → InRange r × (bytes ≡ layout r)
unfolding record_of
record_takes [] r fits e = absurd (none-some r e)
record_takes (tag ∷ bytes) r fits e =
    let rest = IsBytes-rest tag bytes fits in
    let Done : Type 0 = InRange r × (tag ∷ bytes ≡ layout r) in
    chosen (eqb tag 1) _ _ r Done e (λ t e₁. tagged tag 1 bytes r t (begin_takes bytes r rest e₁)) λ e₁.
    chosen (eqb tag 2) _ _ r Done e₁ (λ t e₂. tagged tag 2 bytes r t (walk_takes bytes r rest e₂)) λ e₂.
    chosen (eqb tag 3) _ _ r Done e₂ (λ t e₃. tagged tag 3 bytes r t (send_takes bytes r rest e₃)) λ e₃.
    chosen (eqb tag 4) _ _ r Done e₃ (λ t e₄. tagged tag 4 bytes r t (reply_takes bytes r rest e₄)) λ e₄.
    chosen (eqb tag 5) _ _ r Done e₄ (λ t e₅. tagged tag 5 bytes r t (expire_takes bytes r rest e₅)) λ e₅.
    chosen (eqb tag 6) _ _ r Done e₅ (λ t e₆. tagged tag 6 bytes r t (upgrade_takes bytes r rest e₆)) λ e₆.
    chosen (eqb tag 7) _ _ r Done e₆ (λ t e₇. tagged tag 7 bytes r t (ask_takes bytes r rest e₇)) λ e₇.
    chosen (eqb tag 8) _ _ r Done e₇ (λ t e₈. tagged tag 8 bytes r t (told_takes bytes r rest e₈)) λ e₈. absurd (none-some r e₈)

pub record_again : (r : Record) → InRange r → record_of (layout r) ≡ Some r
unfolding record_of layout
record_again (Begin run moment books bind) h = begin_again run moment books bind h
record_again (Walk task moment) h = walk_again task moment h.0 h.1
record_again (Send task issue agent moment bytes) h = send_again task issue agent moment bytes h
record_again (Reply issue moment status rule text) h = reply_again issue moment status rule text h
record_again (Expire issue moment) h = expire_again issue moment h.0 h.1
record_again (Upgrade version moment) h =
    let same : version ≡ 2 = h.0 in
    ap (λ v. record_of (6 ∷ v ∷ to_be_bytes w64 moment)) same ∙ upgrade_again moment h.1 ∙ ap (λ v. Some (Upgrade v moment)) (sym same)
record_again (Ask task issue moment text) h = ask_again task issue moment text h
record_again (Told issue moment status text) h = told_again issue moment status text h

pub act_takes : (bytes : List ℕ) (a : Act) → IsBytes bytes → act_of bytes ≡ Some a → ActInRange a × (bytes ≡ act_layout a)
unfolding act_of act_at act_layout
act_takes [] a fits e = absurd (none-some a e)
act_takes (tag ∷ bytes) a fits e =
    let rest = IsBytes-rest tag bytes fits in
    let Done : Type 0 = ActInRange a × (tag ∷ bytes ≡ act_layout a) in
    chosen (eqb tag 16) (act_at bytes) None a Done e
    (λ t e₀.
    option_and_then_some _ (number_at w64 bytes) a e₀ λ run is_run e₁.
    option_and_then_some _ (number_at w32 run.1) a e₁ λ issue is_issue e₂.
    option_and_then_some _ (number_at w64 issue.1) a e₂ λ moment is_moment e₃.
    option_and_then_some _ (string_at most_text moment.1) a e₃ λ command is_command e₄.
    option_and_then_some _ (string_at most_text command.1) a e₄ λ reply is_reply e₅.
    let made : Act = record { run = run.0; issue = issue.0; moment = moment.0; command = command.0; reply = reply.0 } in
    chosen (leb moment.0 last_moment) (at_end reply.1 made) None a Done e₅
    (λ early e₆.
    let done = end_some reply.1 made a e₆ in
    let t0 = number_takes w64 (2 ^ 64) wide64 bytes run rest is_run in
    let t1 = number_takes w32 (2 ^ 32) wide32 run.1 issue t0.0.rest_fits is_issue in
    let t2 = number_takes w64 (2 ^ 64) wide64 issue.1 moment t1.0.rest_fits is_moment in
    let t3 = string_takes most_text moment.1 command t2.0.rest_fits is_command in
    let t4 = string_takes most_text command.1 reply t3.0.rest_fits is_reply in
    let first = Takes-then bytes (to_be_bytes w64 run.0) run.1 (to_be_bytes w32 issue.0) issue.1 t0.0 t1.0 in
    let second = Takes-then bytes _ issue.1 (to_be_bytes w64 moment.0) moment.1 first t2.0 in
    let third = Takes-then bytes _ moment.1 (string command.0) command.1 second t3.0 in
    let all = Takes-then bytes _ command.1 (string reply.0) reply.1 third t4.0 in
    let range : ActInRange made = record {
      run_fits = t0.1;
      issue_fits = t1.1;
      moment_fits = leb-true _ _ early;
      short_command = t3.1;
      short_reply = t4.1;
    } in
    let tag_is : tag ≡ 16 = eqb-true tag 16 t in
    subst (λ x. ActInRange x × (tag ∷ bytes ≡ act_layout x)) done.1
    (range, ap (λ n. n ∷ bytes) tag_is ∙ ap (λ b. 16 ∷ b) (whole bytes _ reply.1 all done.0)))
    (λ e₆. absurd (none-some a e₆)))
    (λ e₀. absurd (none-some a e₀))

pub act_again : (a : Act) → ActInRange a → act_of (act_layout a) ≡ Some a
unfolding act_of act_at act_layout
act_again a h =
    ap act_at (five (to_be_bytes w64 a.run) (to_be_bytes w32 a.issue) (to_be_bytes w64 a.moment) (string a.command) (string a.reply))
    ∙ rw (
      number_again w64 (2 ^ 64) wide64 a.run _ h.run_fits,
      number_again w32 (2 ^ 32) wide32 a.issue _ h.issue_fits,
      number_again w64 (2 ^ 64) wide64 a.moment _ (omega (arith, h.moment_fits)),
      string_again most_text a.command _ (omega arith) h.short_command,
      string_again most_text a.reply [] (omega arith) h.short_reply,
      le-leb a.moment last_moment h.moment_fits,
    ) refl

-- ---- as the clauses of reading say it

pub found_record : (bytes : List ℕ) (found : Option Record) → IsBytes bytes → found ≡ record_of bytes → IfSome found (λ r. InRange r × (bytes ≡ layout r))
found_record bytes None fits is = tt
found_record bytes (Some r) fits is = record_takes bytes r fits (sym is)

pub no_record : (bytes : List ℕ) (found : Option Record) → found ≡ record_of bytes → IfNone found ((r : Record) → InRange r → bytes ≢ layout r)
no_record bytes None is = λ r range spelled. none-some r (is ∙ ap record_of spelled ∙ record_again r range)
no_record bytes (Some r) is = tt

pub found_act : (bytes : List ℕ) (found : Option Act) → IsBytes bytes → found ≡ act_of bytes → IfSome found (λ a. ActInRange a × (bytes ≡ act_layout a))
found_act bytes None fits is = tt
found_act bytes (Some a) fits is = act_takes bytes a fits (sym is)

pub no_act : (bytes : List ℕ) (found : Option Act) → found ≡ act_of bytes → IfNone found ((a : Act) → ActInRange a → bytes ≢ act_layout a)
no_act bytes None is = λ a range spelled. none-some a (is ∙ ap act_of spelled ∙ act_again a range)
no_act bytes (Some a) is = tt

-- what follows for the value of an `Ok`
pub ok_then : {T E : Type 0} (P Q : T → Type 0) (r : Result T E) → ((x : T) → P x → Q x) → IfOk r P → IfOk r Q
ok_then P Q (Ok x) h p = h x p
ok_then P Q (Err e) h p = tt
