-- Agreement is kept where the journal gains a record.
use Rattle.std.proofs.Common.{◌≡◌, ◌≢◌, inl, inr, ℕ, ◌≤◌, List, [], ◌∷◌, ◌++◌, refl, sym, ◌∙◌, subst, ap, arith}
use Rattle.std.specs.Prelude.{Some, None}
use Rattle.std.proofs.lemmas.List.{take-append-le}
use Rattle.std.proofs.lemmas.List.Elements.{Contains-push_cases}
use Rattle.cacao_site.specs.View.{SiteView}
use Rattle.cacao_site.specs.declared.parcel.Parcel.{Parcel}
use Rattle.cacao_site.specs.DiskCalls.{IsLeft}
use Rattle.run_journal.specs.Layout.{Stands}
use Rattle.run_records.specs.declared.record.Record.{Record}
use Rattle.run_records.specs.declared.record.Record.TheVariants.{Begin, Reply}
use Rattle.run_records.specs.declared.act.Act.{Act}
use Rattle.flow_core_rules.specs.Lines.{record_line}
use Rattle.flow_core_rules.proofs.RunLemmas.{runs_go_on}
use Rattle.flow_laws.specs.Acts.{HasReply, ReadsAs}
use Rattle.flow_laws.specs.Journals.{IsJournalRun, IsNextStep, IsShownBefore, run_of}
use Rattle.flow_laws.specs.Images.{puts_to, IsRecords, IsActs, IsAgent}
use Rattle.flow_laws.specs.Agree.{Agree, ActsAreSent, AnswersAreReplies, CommandsAreSent}
use Rattle.flow_laws.specs.Good.{IsGood, IsChoice}
use Rattle.flow_laws.specs.Held.{Speech, IsHeldAs, IsRunLine, IsLineOf, LinesAreOfRecords}
use Rattle.flow_laws.specs.Beats.{RecordIsGained, GainsRecord, IsFurther, IsFirst}
use Rattle.flow_laws.proofs.Basics.{put_at, put_at-same, put_at-other, put_at-each, not_zero, same_some, get_more, get_below, append_not_empty, run_of-more, sent_more}
use Rattle.flow_laws.proofs.OneList.{same_records, same_acts, empty_records, stands_empty}
use Rattle.flow_laws.proofs.Shrink.{past_open, own_before, same_lines}

-- ---- the records

-- a run and a next record are a run
run_goes_on : (first : Record) (records : List Record) (next : Record) → IsNextStep (first ∷ records) next → IsJournalRun (first ∷ records ++ next ∷ [])
run_goes_on first records next step = record {
  given = step.before.given;
  run = step.before.run;
  state = step.after;
  accepted = step.before.accepted;
  leads = (runs_go_on step.before.given step.before.run first records next step.after).1 (record { state = step.before.state; leads = step.before.leads; next = step.step });
}

-- a list with a first element isn't empty
not_nil : (first : Record) (records : List Record) → first ∷ records ≢ []
not_nil first records e = cc

-- the number of a first record's run
first_run : (speech : Speech) (site : SiteView) (beat : ℕ) (next : Record) (first : IsFirst speech site beat next) → run_of (next ∷ []) ≡ Some first.run
first_run speech site beat next first = ap (λ (r : Record). run_of (r ∷ [])) first.is

no_reply : (run moment : ℕ) (books : List (List ℕ)) (bind : List ℕ) (issue at status rule : ℕ) (text : List ℕ)
    → Begin run moment books bind ≡ Reply issue at status rule text → ⊥
no_reply run moment books bind issue at status rule text e = cc

-- the commands of the run are still sent
sent_gains : (speech : Speech) (site : SiteView) (beat : ℕ) (next : Record) (records : List Record) → IsFurther speech site beat records next
    → CommandsAreSent records (puts_to site beat) → CommandsAreSent (records ++ next ∷ []) (puts_to site beat)
sent_gains speech site beat next [] further was at parcel has command of =
    let begin = further.first refl in
    absurd (begin.unused.puts at parcel has (sym (same_some (sym (first_run speech site beat next begin) ∙ of))))
sent_gains speech site beat next (r ∷ records) further was at parcel has command of =
    sent_more (r ∷ records) next _ _ _ (was at parcel has command (sym (run_of-more r records next) ∙ of))

-- what one image of each file gives
module _ (speech : Speech) (site : SiteView) (beat : ℕ) (next : Record) (acts : ℕ → List Act) (choice : ℕ → List ℕ)
    (each : (file : ℕ) → 1 ≤ file → file ≤ 16 → IsLeft site.disk file beat (choice file)) (are : (agent : ℕ) → IsAgent agent → IsActs (choice agent) (acts agent)) where
  is_run : (records : List Record) → IsFurther speech site beat records next → IsJournalRun (records ++ next ∷ [])
  is_run [] further = (further.first refl).alone
  is_run (r ∷ records) further = run_goes_on r records next (further.step (not_nil r records))

  acts_sent : (records : List Record) → IsFurther speech site beat records next → ActsAreSent records acts → ActsAreSent (records ++ next ∷ []) acts
  acts_sent [] further was agent act is has of =
      let begin = further.first refl in
      absurd (begin.unused.acts agent (choice agent) (acts agent) act is (each agent is.0 is.1) (are agent is) has (sym (same_some (sym (first_run speech site beat next begin) ∙ of))))
  acts_sent (r ∷ records) further was agent act is has of =
      sent_more (r ∷ records) next _ _ _ (was agent act is has (sym (run_of-more r records next) ∙ of))

  answers : (records : List Record) → IsFurther speech site beat records next → AnswersAreReplies records acts → AnswersAreReplies (records ++ next ∷ []) acts
  answers [] further was run issue moment status rule text of has = elim (Contains-push_cases [] next _ has) [
    | inl none ↦ absurd (omega (arith, none.1))
    | inr new ↦ let begin = further.first refl in absurd (no_reply begin.run begin.moment begin.books begin.bind issue moment status rule text (sym begin.is ∙ new))
  ]
  answers (r ∷ records) further was run issue moment status rule text of has =
      let before : run_of (r ∷ records) ≡ Some run = sym (run_of-more r records next) ∙ of in
      elim (Contains-push_cases (r ∷ records) next _ has) [
        | inl old ↦
            let answer = was run issue moment status rule text before old in
            record { agent = answer.agent; bytes = answer.bytes; is_agent = answer.is_agent; sent = sent_more (r ∷ records) next _ _ _ answer.sent; reply = answer.reply }
        | inr new ↦
            let backed = further.backed run issue moment status rule text before new in
            let there = backed.acts (choice backed.agent) (each backed.agent backed.is_agent.0 backed.is_agent.1) in
            let one : there.acts ≡ acts backed.agent = same_acts (choice backed.agent) there.acts (acts backed.agent) there.are (are backed.agent backed.is_agent) in
            record {
              agent = backed.agent;
              bytes = backed.bytes;
              is_agent = backed.is_agent;
              sent = sent_more (r ∷ records) next _ _ _ backed.sent;
              reply = subst (λ (l : List Act). HasReply l run issue (ReadsAs status rule text)) one there.so;
            }
      ]

  pub agree_more : (records : List Record) → IsFurther speech site beat records next → Agree records acts (puts_to site beat) → Agree (records ++ next ∷ []) acts (puts_to site beat)
  agree_more records further agree = record {
    is_run = is_run records further;
    acts_once = agree.acts_once;
    replies = agree.replies;
    commands = sent_gains speech site beat next records further agree.commands;
    acts_sent = acts_sent records further agree.acts_sent;
    answers = answers records further agree.answers;
  }

-- ---- the lines

-- what stands before a line is as before
same_head : (speech : Speech) (site : SiteView) (beat : ℕ) (next : Record) (records : List Record) → IsFurther speech site beat records next
    → speech.head (run_of (records ++ next ∷ [])) ≡ speech.head (run_of records)
same_head speech site beat next [] further =
    let begin = further.first refl in
    ap speech.head (first_run speech site beat next begin) ∙ begin.speaks
same_head speech site beat next (r ∷ records) further = ap speech.head (run_of-more r records next)

-- a line of the records is one of more
line_gains : (speech : Speech) (site : SiteView) (beat : ℕ) (next : Record) (records : List Record) → IsFurther speech site beat records next
    → (bytes : List ℕ) → IsLineOf speech records bytes → IsLineOf speech (records ++ next ∷ []) bytes
line_gains speech site beat next records further bytes was = record {
  n = was.n;
  it = was.it;
  before = was.before;
  stands = get_more records (next ∷ []) was.n was.it was.stands;
  shows = subst (λ (l : List Record). IsShownBefore l was.before) (sym (take-append-le was.n records (next ∷ []) (get_below records was.n was.it was.stands))) was.shows;
  is = was.is ∙ ap (λ (h : List ℕ). h ++ record_line was.before was.n was.it) (sym (same_head speech site beat next records further));
}

-- ---- the law

module _ (speech : Speech) (first : ℕ) (earlier : SiteView) (early : ℕ) (later : SiteView) (late : ℕ) (records : List Record) (next : Record)
    (gains : GainsRecord speech earlier early later late records next) where
  at_first : (choice : ℕ → List ℕ) → IsChoice later late choice → IsChoice earlier early (put_at 0 gains.some.image choice)
  at_first choice each file le = put_at-each (λ (n : ℕ) (image : List ℕ). n ≤ 16 → IsLeft earlier.disk n early image) 0 gains.some.image choice file
      (λ e small. subst (λ (n : ℕ). IsLeft earlier.disk n early gains.some.image) (sym e) gains.some.left)
      (λ ne small. gains.only.images file small ne (choice file) (each file small))
      le

  pub good_gains : IsGood earlier early → IsGood later late
  good_gains good = record {
    each = λ choice each.
        let image = gains.some.image in
        let g = good.each (put_at 0 image choice) (at_first choice each) in
        let stands : IsRecords image g.records = subst (λ (l : List ℕ). IsRecords l g.records) (put_at-same 0 image choice) g.are_records in
        let one : g.records ≡ records = same_records image g.records records stands (gains.before image gains.some.left) in
        let are : (agent : ℕ) → IsAgent agent → IsActs (choice agent) (g.acts agent) =
        λ agent is. subst (λ (l : List ℕ). IsActs l (g.acts agent)) (put_at-other 0 agent image choice (not_zero agent is.0)) (g.are_acts agent is) in
        let agree : Agree records g.acts (puts_to earlier early) = subst (λ (l : List Record). Agree l g.acts (puts_to earlier early)) one g.agree in
        elim (gains.now (choice 0) (each 0 (omega arith))) [
          | inl still ↦ record {
            records = records;
            acts = g.acts;
            are_records = still;
            are_acts = are;
            agree = subst (λ (p : List (ℕ × Parcel)). Agree records g.acts p) (sym gains.only.puts) agree;
          }
          | inr more ↦ record {
            records = records ++ next ∷ [];
            acts = g.acts;
            are_records = more;
            are_acts = are;
            agree = subst (λ (p : List (ℕ × Parcel)). Agree (records ++ next ∷ []) g.acts p) (sym gains.only.puts)
                (agree_more speech earlier early next g.acts choice (λ file low high. gains.only.images file high (not_zero file low) (choice file) (each file high)) are records gains.further agree);
          }
        ];
  }

  -- an image stands for the records, or for one more
  or_more : (P : List Record → Type 0) → P records → P (records ++ next ∷ []) → (image : List ℕ) (now : List Record) → IsLeft later.disk 0 late image → IsRecords image now → P now
  or_more P still more image now left stands = elim (gains.now image left) [
    | inl was ↦ subst P (same_records image records now was stands) still
    | inr new ↦ subst P (same_records image (records ++ next ∷ []) now new stands) more
  ]

  -- where the later image is empty, the earlier one was
  pub was_empty : (image : List ℕ) → IsLeft later.disk 0 late image → Stands image [] → records ≡ []
  was_empty image left empty =
      or_more (λ (l : List Record). l ≡ [] → records ≡ []) (λ e. e) (λ e. absurd (append_not_empty records next e)) image [] left (empty_records image empty) refl

  lines_still : IsHeldAs speech earlier first early → (image : List ℕ) → IsLeft later.disk 0 late image → IsRecords image records → LinesAreOfRecords speech later late records
  lines_still held image left stands bytes said line =
      held.lines gains.some.image records gains.some.left (gains.before gains.some.image gains.some.left) bytes
      (same_lines speech (Some 0) None earlier early later late gains.only image records left stands bytes line said) line

  lines_more : IsHeldAs speech earlier first early → (image : List ℕ) → IsLeft later.disk 0 late image → IsRecords image (records ++ next ∷ [])
      → LinesAreOfRecords speech later late (records ++ next ∷ [])
  lines_more held image left stands bytes said line =
      let old : IsRunLine speech (run_of records) bytes = record {
        line = line.line;
        looks = line.looks;
        is = line.is ∙ ap (λ (h : List ℕ). h ++ line.line) (same_head speech earlier early next records gains.further);
      } in
      line_gains speech earlier early next records gains.further bytes
      (held.lines gains.some.image records gains.some.left (gains.before gains.some.image gains.some.left) bytes
      (same_lines speech (Some 0) None earlier early later late gains.only image (records ++ next ∷ []) left stands bytes line said) old)

  pub held_gains : IsHeldAs speech earlier first early → IsHeldAs speech later first late
  held_gains held =
      let image = gains.some.image in
      let left = gains.some.left in
      let before = gains.before image left in
      record {
        lines = λ now_image now now_left stands. elim (gains.now now_image now_left) [
          | inl was ↦ subst (λ (l : List Record). LinesAreOfRecords speech later late l) (same_records now_image records now was stands) (lines_still held now_image now_left was)
          | inr new ↦ subst (λ (l : List Record). LinesAreOfRecords speech later late l) (same_records now_image (records ++ next ∷ []) now new stands) (lines_more held now_image now_left new)
        ];
        sent = or_more (λ (now : List Record). CommandsAreSent now (puts_to later late))
            (subst (λ (p : List (ℕ × Parcel)). CommandsAreSent records p) (sym gains.only.puts) (held.sent image records left before))
            (subst (λ (p : List (ℕ × Parcel)). CommandsAreSent (records ++ next ∷ []) p) (sym gains.only.puts)
            (sent_gains speech earlier early next records gains.further (held.sent image records left before)));
        none_while_empty = λ now now_left empty at parcel own.
            let none : records ≡ [] = was_empty now now_left empty in
            let was : IsRecords image [] = subst (λ (l : List Record). IsRecords image l) none before in
            absurd (held.none_while_empty image left (stands_empty image was) at parcel (own_before speech first earlier early later late gains.only.puts at parcel own));
        was_open = λ at parcel own. past_open speech first earlier early later gains.only.past held at parcel (own_before speech first earlier early later late gains.only.puts at parcel own);
      }

pub record_is_gained : RecordIsGained
record_is_gained speech first earlier early later late records next gains good held = (
  good_gains speech first earlier early later late records next gains good,
  held_gains speech first earlier early later late records next gains held,
)
