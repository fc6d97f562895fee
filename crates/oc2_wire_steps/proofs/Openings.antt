-- What the engine's end keeps at each beat of the opening of its journal.
use Rattle.std.proofs.Common.{◌≡◌, ℕ, zero, suc, ◌≤◌, List, [], length, map, sym, ◌∙◌, subst, ap, IsTrue, arith}
use Rattle.std.specs.Prelude.{filter, nat_lt, Contains, Option, None}
use Rattle.std.proofs.lemmas.List.{drop_all}
use Rattle.cacao_site.specs.View.{SiteView, LinkView}
use Rattle.cacao_site.specs.Sound.{IsSound}
use Rattle.cacao_site.specs.declared.parcel.Parcel.{Parcel}
use Rattle.cacao_site.proofs.Beats.{told-goes_on}
use Rattle.flow_laws.specs.Beats.{Among, OnlyChanges}
use Rattle.flow_laws.specs.Held.{plain}
use Rattle.flow_laws.specs.Images.{told_list}
use Rattle.flow_world_steps.proofs.Sites.{some_same}
use Rattle.oc2_wire_laws.specs.Ends.{EngineKeeps}
use Rattle.oc2_wire_laws.specs.EngineBeats.{ShrunkIsKept}
use Rattle.oc2_wire_laws.specs.Since.{EngineKeepsSince, taken_before, takes_of}
use Rattle.oc2_wire_laws.proofs.Changes.{journal_changes, same_puts}
use Rattle.oc2_wire_steps.specs.Kept.{IsToldStart, OpeningIsKept, OpensJournal}
use Rattle.oc2_wire_steps.proofs.Sites.{KeptTo, before_of}

-- none was taken yet
none_taken : (start new : SiteView) (beat : ℕ) → new.link.taken ≡ start.link.taken → taken_before (takes_of start) new beat ≡ []
none_taken start new beat same = ap (λ (o : Option (List (ℕ × Parcel))). before_of start o beat) same ∙ none_got
  where
    none_got : before_of start start.link.taken beat ≡ []
    none_got =
        let entries = told_list start.link.taken in
        ap (λ (l : List (ℕ × Parcel)). map (λ (e : ℕ × Parcel). e.1) (filter (λ (e : ℕ × Parcel). nat_lt e.0 beat) l)) (drop_all (length entries) entries (omega arith))

module _ (shrunk : ShrunkIsKept) (start new : SiteView) (run : ℕ) (sound : IsSound start) (is : IsToldStart start run) (opens : OpensJournal start new) where
  puts : new.link.puts ≡ start.link.puts
  puts = ap (λ (l : LinkView). l.puts) opens.rest.link

  taken : new.link.taken ≡ start.link.taken
  taken = ap (λ (l : LinkView). l.taken) opens.rest.link

  among : (file beat : ℕ) → start.disk.beat ≤ beat → beat ≤ new.disk.beat → Among file start start.disk.beat new beat
  among zero beat from to image left = opens.each.each is.told beat image from to left
  among (suc n) beat from to image left = subst IsTrue ((opens.others (suc n) (λ e. absurd (omega (arith, e)))).images beat image from to) left

  changes : (beat : ℕ) → start.disk.beat ≤ beat → beat ≤ new.disk.beat → OnlyChanges plain None None None start start.disk.beat new beat
  changes beat from to =
      let other = journal_changes start new sound _ opens beat from to in
      record { past = other.past; images = λ file le elsewhere. among file beat from to; puts = other.puts; lines = other.lines }

  kept : EngineKeepsSince start run new
  kept = record {
    told = told-goes_on opens.each.goes_on is.told;
    puts = some_same start.link.puts new.link.puts puts is.puts;
    taken = some_same start.link.taken new.link.taken taken is.taken;
    later = opens.each.goes_on.later;
    each = λ beat from to.
        subst (λ (l : List Parcel). EngineKeeps start run l new beat) (sym (none_taken start new beat taken))
        (shrunk start run [] start start.disk.beat new beat (changes beat from to) is.start.keeps);
  }

  pub opening_kept_to : KeptTo start run new
  unfolding kept
  opening_kept_to = record {
    kept = kept;
    unused = λ image left empty at parcel has.
        is.start.unused image (opens.each.each is.told new.disk.beat image opens.each.goes_on.later (omega arith) left) empty at parcel
        (subst (λ (l : List (ℕ × Parcel)). Contains l (at, parcel)) (same_puts start new sound puts new.disk.beat opens.each.goes_on.later) has);
    more = subst (λ (o : Option (List (ℕ × Parcel))). takes_of start ≤ length (told_list o)) (sym taken) (omega arith);
  }

pub opening_is_kept : ShrunkIsKept → OpeningIsKept
opening_is_kept shrunk start new run sound is opens = (opening_kept_to shrunk start new run sound is opens).kept
