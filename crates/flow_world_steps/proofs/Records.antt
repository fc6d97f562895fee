-- What the calls of an engine rest on, and what they do to agreement.
use Rattle.std.proofs.Common.{◌≡◌, ◌≢◌, ℕ, suc, Bool, false, cond, List, [], ◌∷◌, length, refl, sym, ◌∙◌, subst, ap, IsTrue, arith}
use Rattle.std.specs.Prelude.{Option, Some, None, not, ◌==◌, option_map}
use Rattle.std.proofs.lemmas.Option.{none-some}
use Rattle.cacao_site.specs.View.{SiteView}
use Rattle.cacao_site.specs.DiskCalls.{IsLeft}
use Rattle.cacao_site.specs.Sound.{IsSound}
use Rattle.run_records.specs.declared.record.Record.{Record}
use Rattle.run_records.specs.declared.record.Record.TheVariants as entry
use Rattle.flow_core_rules.specs.Changes.{change, moment_of}
use Rattle.flow_core_rules.specs.Edits.{Edit}
use Rattle.flow_core_rules.specs.Givens.{Given}
use Rattle.flow_core_rules.specs.Moves.{record_of}
use Rattle.flow_core_rules.specs.Runs.{after, begin_of}
use Rattle.flow_core_rules.specs.State.{Shown}
use Rattle.flow_core_rules.specs.declared.moves.Move.{Move}
use Rattle.flow_core_rules.specs.declared.moves.Move.TheVariants as move
use Rattle.flow_engine.specs.Views.{View, begins, taken}
use Rattle.flow_laws.specs.Acts.{ReadsAs}
use Rattle.flow_laws.specs.Beats.{IsBacked, IsFurther}
use Rattle.flow_laws.specs.Fresh.{IsFresh}
use Rattle.flow_laws.specs.Held.{plain}
use Rattle.flow_laws.specs.Images.{IsRecords}
use Rattle.flow_laws.specs.Journals.{IsJournalRun, IsNextStep, run_of}
use Rattle.flow_laws.proofs.Basics.{same_some}
use Rattle.flow_laws.proofs.OneList.{records_of_layout, stands_empty}
use Rattle.flow_engine.specs.HistoryCalls.{Is, MayCome}
use Rattle.flow_engine.specs.HistoryView.{HistoryView, flow_of}
use Rattle.flow_engine.specs.Histories.{IsHistory, IsShownAfter, IsSoFar}
use Rattle.flow_engine.proofs.SoFarLemmas.{begin_is, so_far_more}
use Rattle.flow_engine.specs.EngineCalls.{IsMove}
use Rattle.flow_engine.specs.EngineView.{EngineView}
use Rattle.flow_world_steps.specs.Sides.{IsUp, IsWhole}

-- ---- records of an engine

pub has_records : (v : EngineView) (site : SiteView) → IsWhole v site → IsTrue site.disk.told → (image : List ℕ) → IsLeft site.disk 0 site.disk.beat image
    → IsRecords image v.history.records
has_records v site is told image left =
    records_of_layout image v.history.records is.engine.history.ranges (is.engine.ready is.whole told image left).0

pub so_far_begun : (records : List Record) (seen : Shown) → IsSoFar records seen → records ≢ [] → IsShownAfter seen.given seen.run records seen
so_far_begun [] seen is some = absurd (some refl)
so_far_begun (first ∷ others) seen is some = is

run_shown : (given : Given) (run : ℕ) (records : List Record) (seen : Shown) → IsShownAfter given run records seen → run_of records ≡ Some run
run_shown given run records seen is = ap run_of is.leads.records_are

-- the number of a run that has begun
pub run_known : (h : HistoryView) → IsHistory h → h.records ≢ [] → run_of h.records ≡ Some h.seen.run
run_known h history some = run_shown h.seen.given h.seen.run h.records h.seen (so_far_begun h.records h.seen history.so_far some)

not_zero : (n : ℕ) → (suc n == 0) ≡ false
not_zero n = grind arith

pub taken_next : (records : List Record) (v : View) (r : Record) (edits : List Edit) → v.count ≡ length records → records ≢ [] → taken v r ≡ Some edits → change v.seen r ≡ Some edits
taken_next [] v r edits c some e = absurd (some refl)
taken_next (first ∷ others) v r edits c some e =
    subst (λ (b : Bool). cond (not b) (change v.seen r) (begins v.seen r) ≡ Some edits) (ap (λ (k : ℕ). k == 0) c ∙ not_zero (length others)) e

taken_first : (v : View) (r : Record) (edits : List Edit) → v.count ≡ 0 → taken v r ≡ Some edits → begins v.seen r ≡ Some edits
taken_first v r edits c e = subst (λ (k : ℕ). cond (not (k == 0)) (change v.seen r) (begins v.seen r) ≡ Some edits) c e

-- a record that may come behind others is a next step
pub is_next : (h : HistoryView) (IsNext : Record → Type 0) → IsHistory h → h.records ≢ [] → (comes : MayCome h IsNext) → IsNextStep h.records comes.next
is_next h IsNext history some comes =
    let is = so_far_begun h.records h.seen history.so_far some in
    let there = taken_next h.records (flow_of h) comes.next comes.edits refl some comes.takes in
    record {
      before = record { given = h.seen.given; run = h.seen.run; state = is.state; accepted = history.accepted; leads = is.leads };
      after = after (moment_of comes.next) comes.edits is.state;
      step = record { edits = comes.edits; change_is = subst (λ (x : Shown). change x comes.next ≡ Some comes.edits) is.is there; new_is = refl };
    }

-- one that comes first is the Begin, and alone it is a run
first_alone : (records : List Record) (h : HistoryView) (IsNext : Record → Type 0) → IsHistory h → h.records ≡ records → records ≡ [] → (comes : MayCome h IsNext) → IsJournalRun (comes.next ∷ [])
first_alone [] h IsNext history are none comes =
    let so_far : IsSoFar [] h.seen = subst (λ (l : List Record). IsSoFar l h.seen) are history.so_far in
    let zero_of : (flow_of h).count ≡ 0 = ap (λ (l : List Record). length l) are in
    let is = so_far_more [] (flow_of h) comes.next comes.edits zero_of so_far comes.takes in
    record { given = h.seen.given; run = h.seen.run; state = is.state; accepted = history.accepted; leads = is.leads }
first_alone (first ∷ others) h IsNext history are none comes = absurd (length_not none)
  where
    length_not : first ∷ others ≡ [] → ⊥
    length_not e = let long = ap (λ (l : List Record). length l) e in absurd (omega (arith, long))

first_is : (h : HistoryView) (IsNext : Record → Type 0) → h.records ≡ [] → (comes : MayCome h IsNext) → comes.next ≡ begin_of h.seen.given h.seen.run (moment_of comes.next)
first_is h IsNext none comes =
    let zero_of : (flow_of h).count ≡ 0 = ap (λ (l : List Record). length l) none in
    begin_is h.seen comes.next comes.edits (taken_first (flow_of h) comes.next comes.edits zero_of comes.takes)

-- ---- what a record needs to be a further one

-- a record is a Reply only where its act is in each image
abbrev IsBackedIfReply : SiteView → List Record → Record → Type 0
IsBackedIfReply site records next = (run issue moment status rule : ℕ) (text : List ℕ) → run_of records ≡ Some run
    → next ≡ entry.Reply issue moment status rule text → IsBacked site site.disk.beat records run issue (ReadsAs status rule text)

pub further_next : (v : EngineView) (site : SiteView) (IsNext : Record → Type 0) → IsUp v site → (comes : MayCome v.history IsNext)
    → IsBackedIfReply site v.history.records comes.next → IsFurther plain site site.disk.beat v.history.records comes.next
further_next v site IsNext up comes backed = record {
  first = λ none. absurd (up.begun none);
  step = λ some. is_next v.history IsNext up.has_file.engine.history some comes;
  backed = backed;
}

no_run : (records : List Record) (run : ℕ) → records ≡ [] → run_of records ≡ Some run → ⊥
no_run records run none of = none-some run (subst (λ (l : List Record). run_of l ≡ Some run) none of)

-- the Begin of a run whose number is fresh
pub further_begin : (v : EngineView) (site : SiteView) (IsNext : Record → Type 0) → IsWhole v site → IsSound site → IsTrue site.disk.told → v.history.records ≡ []
    → (comes : MayCome v.history IsNext) → IsFresh site v.history.seen.run site.disk.beat → IsFurther plain site site.disk.beat v.history.records comes.next
further_begin v site IsNext whole sound told none comes fresh =
    let image = (sound.images 0 site.disk.beat told (omega arith)).0 in
    let left = (sound.images 0 site.disk.beat told (omega arith)).1 in
    let empty : IsRecords image [] = subst (λ (l : List Record). IsRecords image l) none (has_records v site whole told image left) in
    record {
      first = λ e. record {
        run = v.history.seen.run;
        moment = moment_of comes.next;
        books = v.history.seen.given.texts;
        bind = v.history.seen.given.bind;
        is = first_is v.history IsNext none comes;
        alone = first_alone v.history.records v.history IsNext whole.engine.history refl none comes;
        unused = fresh.unused image left (stands_empty image empty);
        speaks = refl;
      };
      step = λ some. absurd (some none);
      backed = λ run issue moment status rule text of e. absurd (no_run v.history.records run none of);
    }

-- ---- records that are no Reply

no_option : {A : Type 0} (o : Option A) (f : A → Record) (r : Record) → ((x : A) → f x ≡ r → ⊥) → option_map f o ≡ Some r → ⊥
no_option None f r not e = none-some r e
no_option (Some x) f r not e = not x (same_some e)

not_reply_move : (seen : Shown) (now : ℕ) (m : Move) (next : Record) (issue moment status rule : ℕ) (text : List ℕ) → record_of seen now m ≡ Some next
    → next ≡ entry.Reply issue moment status rule text → ⊥
not_reply_move seen now (move.Walk t) next issue moment status rule text is e = let f : entry.Walk t now ≡ entry.Reply issue moment status rule text = same_some (is ∙ ap Some e) in cc
not_reply_move seen now (move.Send t) next issue moment status rule text is e = no_option _ _ (entry.Reply issue moment status rule text) (λ x f. cc) (is ∙ ap Some e)
not_reply_move seen now (move.Ask t) next issue moment status rule text is e = no_option _ _ (entry.Reply issue moment status rule text) (λ x f. cc) (is ∙ ap Some e)
not_reply_move seen now move.Upgrade next issue moment status rule text is e = let f : entry.Upgrade 2 now ≡ entry.Reply issue moment status rule text = same_some (is ∙ ap Some e) in cc

pub move_backed : (v : EngineView) (site : SiteView) (moment : ℕ) (next : Record) → IsMove v.history moment next → IsBackedIfReply site v.history.records next
move_backed v site moment next is run issue at status rule text of e = absurd (not_reply_move v.history.seen moment is.move next issue at status rule text is.is e)

pub expire_backed : (site : SiteView) (records : List Record) (issue moment : ℕ) (next : Record) → Is (entry.Expire issue moment) next → IsBackedIfReply site records next
expire_backed site records issue moment next is run i at status rule text of e = let f : entry.Expire issue moment ≡ entry.Reply i at status rule text = sym is ∙ e in absurd (cc)

pub upgrade_backed : (site : SiteView) (records : List Record) (moment : ℕ) (next : Record) → Is (entry.Upgrade 2 moment) next → IsBackedIfReply site records next
upgrade_backed site records moment next is run i at status rule text of e = let f : entry.Upgrade 2 moment ≡ entry.Reply i at status rule text = sym is ∙ e in absurd (cc)

pub told_backed : (site : SiteView) (records : List Record) (issue moment status : ℕ) (text : List ℕ) (next : Record) → Is (entry.Told issue moment status text) next → IsBackedIfReply site records next
told_backed site records issue moment status text next is run i at s rule t of e = let f : entry.Told issue moment status text ≡ entry.Reply i at s rule t = sym is ∙ e in absurd (cc)
