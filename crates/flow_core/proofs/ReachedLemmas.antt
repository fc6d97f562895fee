-- What a flow shows is the state of a run.
use Rattle.std.proofs.Common.{◌≡◌, ℕ, suc, ◌≤◌, List, [], ◌∷◌, ◌++◌, length, Some, arith, refl, ap, sym, subst, ◌∙◌, length-append}
use Rattle.std.specs.Prelude.{option_map}
use Rattle.run_records.specs.Ranges.{last_moment}
use Rattle.run_records.specs.declared.record.Record.{Record}
use Rattle.flow_core_rules.specs.Givens.{Given}
use Rattle.flow_core_rules.specs.State.{State, Shown, shown}
use Rattle.flow_core_rules.specs.Edits.{Edit}
use Rattle.flow_core_rules.specs.Runnable.{IsRunnable}
use Rattle.flow_core_rules.specs.Sane.{IsSane}
use Rattle.flow_core_rules.specs.Changes.{change, moment_of}
use Rattle.flow_core_rules.specs.Runs.{GoesOn, Leads, Next, begin_of, begun, first_edits, blank, after, shown_after}
use Rattle.flow_core_rules.specs.Laws.{HasPlacedWrites, IsShownAlone, IsShownAtFirst}
use Rattle.flow_core_rules.proofs.PlacedLemmas.{records_shown, first_shown}
use Rattle.flow_core_rules.proofs.SaneRuns.{runs_are_sane}
use Rattle.flow_core.specs.Views.{blank_shown}
use Rattle.flow_core.specs.Flows.{IsStateOf}
use Rattle.flow_core.specs.TakenRecords.{IsShownAfter}

inner : {A : Type 0} (a b : A) → Some a ≡ Some b → a ≡ b
inner a b h = cc

-- ---- states of runs have placed writes

placed_on : (s new : State) (rs : List Record) → HasPlacedWrites s → GoesOn s rs new → HasPlacedWrites new
placed_on s new [] placed g = subst HasPlacedWrites g placed
placed_on s new (r ∷ rs) placed g = placed_on g.0 new rs (records_shown s g.0 r placed g.1).placed g.2

pub leads_placed : (given : Given) (run : ℕ) (rs : List Record) (state : State) → Leads given run rs state → HasPlacedWrites state
leads_placed given run rs state l = placed_on l.first state l.others (first_shown given run l.now l.first l.begins).placed l.goes_on

-- ---- one record more

goes_on_more : (s mid new : State) (r : Record) (others : List Record) → GoesOn s others mid → Next mid r new → GoesOn s (others ++ r ∷ []) new
goes_on_more s mid new r [] g n = (new, subst (λ (x : State). Next x r new) (sym g) n, refl)
goes_on_more s mid new r (q ∷ others) g n = (g.0, g.1, goes_on_more g.0 mid new r others g.2 n)

pub leads_more : (given : Given) (run : ℕ) (rs : List Record) (state new : State) (r : Record) → Leads given run rs state → Next state r new → Leads given run (rs ++ r ∷ []) new
leads_more given run rs state new r l next = record {
  now = l.now;
  others = l.others ++ r ∷ [];
  first = l.first;
  in_time = l.in_time;
  records_are = ap (λ (qs : List Record). qs ++ r ∷ []) l.records_are;
  begins = l.begins;
  goes_on = goes_on_more l.first state new r l.others l.goes_on next;
}

pub shown_more : (given : Given) (run : ℕ) (rs : List Record) (seen : Shown) (r : Record) (edits : List Edit) → IsShownAfter given run rs seen → change seen r ≡ Some edits
    → IsShownAfter given run (rs ++ r ∷ []) (shown_after (moment_of r) edits seen)
shown_more given run rs seen r edits h e =
    let new : State = after (moment_of r) edits h.state in
    let there : change (shown h.state) r ≡ Some edits = subst (λ (x : Shown). change x r ≡ Some edits) h.is e in
    let next : Next h.state r new = record { edits = edits; change_is = there; new_is = refl } in
    let alone : IsShownAlone h.state r new = records_shown h.state new r (leads_placed given run rs h.state h.leads) next in
    let same : alone.edits ≡ edits = inner alone.edits edits (sym alone.edits_are ∙ there) in
    record {
      state = new;
      leads = leads_more given run rs h.state new r h.leads next;
      is = ap (shown_after (moment_of r) edits) h.is ∙ ap (λ (es : List Edit). shown_after (moment_of r) es (shown h.state)) (sym same) ∙ sym alone.shown_is;
    }

-- ---- the Begin

pub shown_first : (given : Given) (run now : ℕ) (edits : List Edit) → now ≤ last_moment → first_edits given now ≡ Some edits
    → IsShownAfter given run (begin_of given run now ∷ []) (shown_after now edits (blank_shown given run))
shown_first given run now edits le e =
    let state : State = after now edits (blank given run) in
    let begins : begun given run now ≡ Some state = ap (option_map (λ (es : List Edit). after now es (blank given run))) e in
    let f : IsShownAtFirst given run now state = first_shown given run now state begins in
    let same : f.edits ≡ edits = inner f.edits edits (sym f.edits_are ∙ e) in
    record {
      state = state;
      leads = record { now = now; others = []; first = state; in_time = le; records_are = refl; begins = begins; goes_on = refl };
      is = sym (f.shown_is ∙ ap (λ (es : List Edit). shown_after now es (blank_shown given run)) same);
    }

-- ---- the state of a run of so many records

state_of : (n : ℕ) (seen : Shown) (rs : List Record) → IsShownAfter seen.given seen.run rs seen → length rs ≡ n → IsStateOf n seen
state_of n seen rs h many = record {
  records = rs;
  state = h.state;
  leads = h.leads;
  shown_is = sym h.is;
  many = many;
  placed = leads_placed seen.given seen.run rs h.state h.leads;
}

-- the first state
pub reached_first : (given : Given) (run now : ℕ) (edits : List Edit) → now ≤ last_moment → first_edits given now ≡ Some edits → IsStateOf 1 (shown_after now edits (blank_shown given run))
reached_first given run now edits le e =
    state_of 1 (shown_after now edits (blank_shown given run)) (begin_of given run now ∷ []) (shown_first given run now edits le e) refl

-- the next one
pub reached_next : (n : ℕ) (seen : Shown) (r : Record) (edits : List Edit) → IsStateOf n seen → change seen r ≡ Some edits → IsStateOf (suc n) (shown_after (moment_of r) edits seen)
reached_next n seen r edits h e =
    let before : IsShownAfter seen.given seen.run h.records seen = record { state = h.state; leads = h.leads; is = sym h.shown_is } in
    state_of (suc n) (shown_after (moment_of r) edits seen) (h.records ++ r ∷ []) (shown_more seen.given seen.run h.records seen r edits before e)
    (omega (arith, length-append h.records (r ∷ []), h.many))

pub sane_reached : (n : ℕ) (seen : Shown) → IsRunnable seen.given → IsStateOf n seen → IsSane seen
sane_reached n seen runnable h = subst IsSane h.shown_is (runs_are_sane seen.given seen.run h.records h.state runnable h.leads)
