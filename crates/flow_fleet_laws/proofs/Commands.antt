-- Which commands calls in a row put.
use Rattle.std.proofs.Common.{◌≡◌, ◌⊎◌, inl, inr, ℕ, ◌≤◌, nat_le, Bool, true, false, List, [], ◌∷◌, ◌++◌, length, refl, sym, ◌∙◌, subst, ap, arith, All}
use Rattle.std.specs.Prelude.{Contains, IfSome, Option, Some, None, drop, filter}
use Rattle.std.proofs.Math.Seq.{drop-append_seam}
use Rattle.std.proofs.lemmas.List.{append-nil, append_assoc}
use Rattle.std.proofs.lemmas.List.Elements.{All-contains, All-contains_itself, All-filter, Contains-append_cases, Contains-push_cases, filter-append}
use Rattle.cacao_site.specs.LinkCalls.{Gains}
use Rattle.cacao_site.specs.SiteCalls.{Puts}
use Rattle.cacao_site.specs.Sound.{IsSound}
use Rattle.cacao_site.specs.View.{LinkView, SiteView}
use Rattle.cacao_site.specs.declared.parcel.Parcel.{Parcel}
use Rattle.flow_laws.specs.Held.{plain}
use Rattle.flow_laws.specs.Images.{puts_of, puts_to, session_puts, told_list, up_to}
use Rattle.flow_laws.proofs.Again.{none_put}
use Rattle.flow_laws.proofs.Basics.{same_entry}
use Rattle.flow_laws.proofs.Calls.{all_past}
use Rattle.flow_fleet_laws.specs.Events.{Event, Events, EventsPutOwn}
use Rattle.flow_fleet_laws.specs.Events.Event.{shrinks, record_by, line_by, other_line, command_by, act_by, reply_by}
use Rattle.flow_fleet_laws.specs.Events.Events.{nothing, and_then}
use Rattle.flow_fleet_laws.specs.Fleets.{IsAt}
use Rattle.flow_fleet_laws.specs.Speeches.{Form}
use Rattle.flow_fleet_laws.proofs.Journals.{events_go_on}

-- ---- what one call puts

-- a command, if it is one, is of one of the runs
abbrev pub IsOfOne : List ℕ → Parcel → Type 0
IsOfOne runs parcel = parcel.back ≡ false → (place : ℕ) × IsAt runs place parcel.run

abbrev pub Entries : Type 0
Entries = List (ℕ × Parcel)

abbrev pub AreOfOnes : List ℕ → Entries → Type 0
AreOfOnes runs more = (at : ℕ) (parcel : Parcel) → Contains more (at, parcel) → IsOfOne runs parcel

-- the puts are those that were, and some more
pub record HasPutMore (runs : List ℕ) (old new : SiteView) : Type 0 where
  pub more : Entries
  pub is : told_list new.link.puts ≡ told_list old.link.puts ++ more
  pub own : AreOfOnes runs more

none_in : {T : Type 0} (x : T) → Contains [] x → ⊥
none_in x has = absurd (omega (arith, has.1))

none_more : (runs : List ℕ) (old new : SiteView) → new.link.puts ≡ old.link.puts → HasPutMore runs old new
none_more runs old new same = record {
  more = [];
  is = ap (λ (l : Option Entries). told_list l) same ∙ sym (append-nil (told_list old.link.puts));
  own = λ at parcel has. absurd (none_in (at, parcel) has);
}

one_in : (at : ℕ) (parcel : Parcel) (e : ℕ × Parcel) → Contains ((at, parcel) ∷ []) e → (at, parcel) ≡ e
one_in at parcel e has = elim (Contains-push_cases [] (at, parcel) e has) [ inl none ↦ absurd (none_in e none) | inr is ↦ is ]

gains_told : (old new : Option Entries) (entry : ℕ × Parcel) → Gains old entry new → (told_list new ≡ told_list old ++ entry ∷ []) ⊎ (told_list new ≡ told_list old)
gains_told (Some old) (Some new) entry is = inl is
gains_told None None entry is = inr refl
gains_told (Some old) None entry is = absurd is
gains_told None (Some new) entry is = absurd is

one_more : (runs : List ℕ) (old new : SiteView) (parcel : Parcel) → Puts parcel old new → IsOfOne runs parcel → HasPutMore runs old new
one_more runs old new parcel puts own = elim puts.puts [
  | inr lost ↦ none_more runs old new lost.0
  | inl gained ↦ elim (gains_told old.link.puts new.link.puts (new.disk.beat, parcel) gained) [
    | inl is ↦ record {
      more = (new.disk.beat, parcel) ∷ [];
      is = is;
      own = λ at other has. subst (λ (p : Parcel). IsOfOne runs p) (same_entry (one_in new.disk.beat parcel (at, other) has)) own;
    }
    | inr same ↦ record { more = []; is = same ∙ sym (append-nil (told_list old.link.puts)); own = λ at other has. absurd (none_in (at, other) has) }
  ]
]

back_is_none : (b : Bool) → b ≡ true → b ≡ false → ⊥
back_is_none true is not = cc
back_is_none false is not = cc

event_puts : (form : Form) (runs : List ℕ) (start old new : SiteView) → Event form runs start old new → HasPutMore runs old new
event_puts form runs start old new (shrinks only) = none_more runs old new only.puts
event_puts form runs start old new (record_by place run at by) = none_more runs old new (ap (λ (l : LinkView). l.puts) by.only.rest.link)
event_puts form runs start old new (line_by place run at own by) = none_more runs old new by.puts
event_puts form runs start old new (other_line line none disk puts gained) = none_more runs old new puts
event_puts form runs start old new (command_by place run at own by) =
    one_more runs old new by.parcel by.puts (λ command. (place, subst (λ (n : ℕ). IsAt runs place n) (sym by.of_run) at))
event_puts form runs start old new (act_by agent by) = none_more runs old new (ap (λ (l : LinkView). l.puts) by.only.rest.link)
event_puts form runs start old new (reply_by by) = one_more runs old new by.parcel by.puts (λ command. absurd (back_is_none by.parcel.back by.back command))

-- ---- calls in a row

puts_then : (runs : List ℕ) (a b c : SiteView) → HasPutMore runs a b → HasPutMore runs b c → HasPutMore runs a c
puts_then runs a b c one two = record {
  more = one.more ++ two.more;
  is = two.is ∙ ap (λ (l : Entries). l ++ two.more) one.is ∙ append_assoc (told_list a.link.puts) one.more two.more;
  own = λ at parcel has. elim (Contains-append_cases one.more two.more (at, parcel) has) [
    | inl first ↦ one.own at parcel first
    | inr second ↦ two.own at parcel second
  ];
}

events_puts : (form : Form) (runs : List ℕ) (start site : SiteView) → Events form runs start site → HasPutMore runs start site
events_puts form runs start site nothing = none_more runs start start refl
events_puts form runs start site (and_then {old} {new} before sound event) =
    puts_then runs start old new (events_puts form runs start old before) (event_puts form runs start old new event)

-- the site on which calls in a row began is sound where each is
first_sound : (form : Form) (runs : List ℕ) (start site : SiteView) → Events form runs start site → IsSound site → IsSound start
first_sound form runs start site nothing sound = sound
first_sound form runs start site (and_then {old} {new} before was event) sound = first_sound form runs start old before was

-- ---- up to now

past_all : (beat at : ℕ) (list : Option Entries) → beat ≤ at → IfSome list (λ l. All (λ (e : ℕ × Parcel). e.0 ≤ beat) l) → up_to at (told_list list) ≡ told_list list
past_all beat at None le past = refl
past_all beat at (Some list) le past = all_past at list (λ k e lt. omega (arith, past k e lt, le))

in_up_to : (beat : ℕ) (entries : Entries) (e : ℕ × Parcel) → Contains (up_to beat entries) e → Contains entries e
in_up_to beat entries e has =
    let test = λ (x : ℕ × Parcel). nat_le x.0 beat in
    All-contains (Contains entries) (filter test entries) e (All-filter test (Contains entries) entries (All-contains_itself entries)) has

-- what a session put is what was put more
put_since : (runs : List ℕ) (start site : SiteView) → IsSound start → start.disk.beat ≤ site.disk.beat → (puts : HasPutMore runs start site)
    → session_puts (puts_of start) site site.disk.beat ≡ up_to site.disk.beat puts.more
put_since runs start site sound later puts =
    let first = told_list start.link.puts in
    let beat = site.disk.beat in
    let all : puts_to site beat ≡ first ++ up_to beat puts.more =
    ap (λ (l : Entries). up_to beat l) puts.is ∙ filter-append (λ (e : ℕ × Parcel). nat_le e.0 beat) first puts.more
    ∙ ap (λ (l : Entries). l ++ up_to beat puts.more) (past_all start.disk.beat beat start.link.puts later sound.puts.past) in
    ap (λ (l : Entries). drop (length first) l) all ∙ drop-append_seam first (up_to beat puts.more)

pub events_put_own : EventsPutOwn
events_put_own form runs start site nothing at parcel has command =
    absurd (none_put plain start start.disk.beat at parcel (record { has = has; command = command; own = refl }))
events_put_own form runs start site (and_then {old} {new} before sound event) at parcel has command =
    let all = and_then before sound event in
    let puts = events_puts form runs start new all in
    let same = put_since runs start new (first_sound form runs start old before sound) (events_go_on form runs start new all).later puts in
    puts.own at parcel (in_up_to new.disk.beat puts.more (at, parcel) (subst (λ (l : Entries). Contains l (at, parcel)) same has)) command
