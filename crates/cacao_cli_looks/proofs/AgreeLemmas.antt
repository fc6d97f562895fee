-- Agreement over lines that are no record's.
use Rattle.std.proofs.Common.{◌≡◌, inl, inr, ◌∙◌, refl, sym, ap, subst, arith, ℕ, ◌≤◌, nat_le, IsTrue, List, [], ◌∷◌, ◌++◌, append-nil, append_assoc, All, Option, Some, None}
use Rattle.std.specs.Prelude.{Contains, IfSome}
use Rattle.std.proofs.lemmas.Bool.{cases_lt}
use Rattle.std.proofs.lemmas.List.Elements.{All-contains, All-contains_itself, All-filter, Contains-append_cases, Contains-push_cases, filter-append}
use Rattle.cacao_site.specs.DiskCalls.{IsLeft, KeepsDisk, SameRest}
use Rattle.cacao_site.specs.LinkCalls.{Gains, GainsAll}
use Rattle.cacao_site.specs.Sound.{IsSound}
use Rattle.cacao_site.specs.View.{LinkView, SiteView}
use Rattle.cacao_site.specs.declared.parcel.Parcel.{Parcel}
use Rattle.flow_core_rules.specs.Laws.{IsRecordLine}
use Rattle.flow_laws.specs.Beats.{OnlyChanges}
use Rattle.flow_laws.specs.Held.{plain}
use Rattle.flow_laws.specs.Images.{WasSaid, puts_of, told_list, up_to}
use Rattle.flow_laws.specs.Since.{Agreed, AgreedSince}
use Rattle.flow_laws.proofs.Calls.{same_entries}
use Rattle.flow_laws.proofs.Fresh.{fresh_shrinks}
use Rattle.flow_laws.proofs.Shrink.{images_shrink}
use Rattle.cacao_cli_words.specs.Words.{Text}
use Rattle.cacao_cli_ends.specs.Lines.{FailsToSay, SaysAll, SaysLine}
use Rattle.cacao_cli_ends.proofs.SayingLemmas.{keeps-refl, keeps-trans}

-- ---- what is said that is no record's

abbrev pub IsOtherLine : Text → Type 0
IsOtherLine line = IsRecordLine line → ⊥

abbrev pub AreOthers : List (ℕ × Text) → Type 0
AreOthers entries = (e : ℕ × Text) → Contains entries e → IsOtherLine e.1

abbrev pub AreOtherLines : List Text → Type 0
AreOtherLines [] = Unit {0}
AreOtherLines (line ∷ lines) = IsOtherLine line × AreOtherLines lines

-- lines that are no record's were said, and nothing else changed
pub record SaysOthers (old new : SiteView) : Type 0 where
  pub disk : KeepsDisk old.disk new.disk
  pub puts : new.link.puts ≡ old.link.puts
  pub more : List (ℕ × Text)
  pub said : GainsAll old.link.said more new.link.said
  pub others : AreOthers more

gains-none : (said : Option (List (ℕ × Text))) → GainsAll said [] said
gains-none None = tt
gains-none (Some said) = sym (append-nil said)

pub others-refl : (site : SiteView) → SaysOthers site site
others-refl site = record { disk = keeps-refl site.disk; puts = refl; more = []; said = gains-none site.link.said; others = λ e has. absurd (omega (arith, has.1)) }

pub others-same : (old new : SiteView) → new ≡ old → SaysOthers old new
others-same old new e = subst (SaysOthers old) (sym e) (others-refl old)

gains-both : (a b c : Option (List (ℕ × Text))) (xs ys : List (ℕ × Text)) → GainsAll a xs b → GainsAll b ys c → GainsAll a (xs ++ ys) c
gains-both None None None xs ys p q = tt
gains-both None None (Some c) xs ys p q = q
gains-both None (Some b) c xs ys p q = absurd p
gains-both (Some a) None c xs ys p q = absurd p
gains-both (Some a) (Some b) None xs ys p q = q
gains-both (Some a) (Some b) (Some c) xs ys p q = q ∙ ap (λ (l : List (ℕ × Text)). l ++ ys) p ∙ append_assoc a xs ys

others-both : (xs ys : List (ℕ × Text)) → AreOthers xs → AreOthers ys → AreOthers (xs ++ ys)
others-both xs ys p q e has = elim (Contains-append_cases xs ys e has) [ inl l ↦ p e l | inr r ↦ q e r ]

pub others-trans : (a b c : SiteView) → SaysOthers a b → SaysOthers b c → SaysOthers a c
others-trans a b c p q = record {
  disk = keeps-trans a.disk b.disk c.disk p.disk q.disk;
  puts = q.puts ∙ p.puts;
  more = p.more ++ q.more;
  said = gains-both a.link.said b.link.said c.link.said p.more q.more p.said q.said;
  others = others-both p.more q.more p.others q.others;
}

gains-one : (a b : Option (List (ℕ × Text))) (e : ℕ × Text) → Gains a e b → GainsAll a (e ∷ []) b
gains-one None None e h = tt
gains-one None (Some b) e h = h
gains-one (Some a) None e h = h
gains-one (Some a) (Some b) e h = h

pub others-line : (line : Text) (old new : SiteView) → IsOtherLine line → SaysLine line old new → SaysOthers old new
others-line line old new other h = record {
  disk = h.only.disk;
  puts = h.only.puts;
  more = (new.disk.beat, line) ∷ [];
  said = gains-one old.link.said new.link.said (new.disk.beat, line) h.said;
  others = λ e has. elim (Contains-push_cases [] (new.disk.beat, line) e has) [
    | inl none ↦ absurd (omega (arith, none.1))
    | inr is ↦ subst IsOtherLine (ap (λ (x : ℕ × Text). x.1) is) other
  ];
}

pub others-failed : (old new : SiteView) → FailsToSay old new → SaysOthers old new
others-failed old new h = record {
  disk = h.only.disk;
  puts = h.only.puts;
  more = [];
  said = subst (GainsAll old.link.said []) (sym h.said) (gains-none old.link.said);
  others = λ e has. absurd (omega (arith, has.1));
}

pub others-all : (lines : List Text) (old new : SiteView) → AreOtherLines lines → SaysAll lines old new → SaysOthers old new
others-all [] old new o h = others-same old new h
others-all (line ∷ lines) old new o h = others-trans old h.0 new (others-line line old h.0 o.0 h.1) (others-all lines h.0 new o.1 h.2)

pub front-others : (front behind : List Text) → AreOtherLines (front ++ behind) → AreOtherLines front
front-others [] behind h = tt
front-others (line ∷ front) behind h = (h.0, front-others front behind h.1)

-- ---- agreement goes on

-- puts and lines have beats up to now
pub record IsInTime (site : SiteView) : Type 0 where
  pub puts : IfSome site.link.puts (λ entries. All (λ entry. entry.0 ≤ site.disk.beat) entries)
  pub said : IfSome site.link.said (λ entries. All (λ entry. entry.0 ≤ site.disk.beat) entries)

pub sound-in-time : (site : SiteView) → IsSound site → IsInTime site
sound-in-time site sound = record { puts = sound.puts.past; said = sound.said.past }

later-in-time : {T : Type 0} (n m : ℕ) (list : Option (List (ℕ × T))) → n ≤ m → IfSome list (λ entries. All (λ (e : ℕ × T). e.0 ≤ n) entries) → IfSome list (λ entries. All (λ (e : ℕ × T). e.0 ≤ m) entries)
later-in-time n m None le h = tt
later-in-time n m (Some list) le h = λ k d lt. omega (arith, h k d lt, le)

-- what is not on the disk stays
pub rest-in-time : (old new : SiteView) → SameRest old new → old.disk.beat ≤ new.disk.beat → IsInTime old → IsInTime new
rest-in-time old new rest le time = record {
  puts = later-in-time old.disk.beat new.disk.beat new.link.puts le (subst (λ (l : LinkView). IfSome l.puts (λ (entries : List (ℕ × Parcel)). All (λ (e : ℕ × Parcel). e.0 ≤ old.disk.beat) entries)) (sym rest.link) time.puts);
  said = later-in-time old.disk.beat new.disk.beat new.link.said le (subst (λ (l : LinkView). IfSome l.said (λ (entries : List (ℕ × Text)). All (λ (e : ℕ × Text). e.0 ≤ old.disk.beat) entries)) (sym rest.link) time.said);
}

in-all : {T : Type 0} (beat : ℕ) (entries : List (ℕ × T)) (e : ℕ × T) → Contains (up_to beat entries) e → Contains entries e
in-all {T} beat entries e has = All-contains (Contains entries) (up_to beat entries) e (All-filter (λ (x : ℕ × T). nat_le x.0 beat) (Contains entries) entries (All-contains_itself entries)) has

-- of what is said by a beat, a record's line was said before
kept-line : (beat : ℕ) (old new : Option (List (ℕ × Text))) (more : List (ℕ × Text)) (at : ℕ) (bytes : Text) → GainsAll old more new → AreOthers more → IsRecordLine bytes
    → Contains (up_to beat (told_list new)) (at, bytes) → Contains (up_to beat (told_list old)) (at, bytes)
kept-line beat None None more at bytes gains others is has = has
kept-line beat None (Some new) more at bytes gains others is has = absurd gains
kept-line beat (Some old) None more at bytes gains others is has = absurd gains
kept-line beat (Some old) (Some new) more at bytes gains others is has =
    elim (Contains-append_cases (up_to beat old) (up_to beat more) (at, bytes)
    (subst (λ (l : List (ℕ × Text)). Contains l (at, bytes)) (ap (up_to beat) gains ∙ filter-append (λ (e : ℕ × Text). nat_le e.0 beat) old more) has)) [
      | inl was ↦ was
      | inr now ↦ absurd (others (at, bytes) (in-all beat more (at, bytes) now) is)
    ]

module _ (start old new : SiteView) (so_far : AgreedSince plain start old) (time : IsInTime old) (says : SaysOthers old new) where
  -- the record's lines of a beat are those of an earlier one
  said-then : (early late : ℕ) → up_to late (told_list old.link.said) ≡ up_to early (told_list old.link.said) → (bytes : Text) → IsRecordLine bytes → WasSaid new late bytes → WasSaid old early bytes
  said-then early late same bytes is was = record {
    at = was.at;
    has = subst (λ (l : List (ℕ × Text)). Contains l (was.at, bytes)) same (kept-line late old.link.said new.link.said says.more was.at bytes says.said says.others is was.has);
  }

  -- a later beat, with the images, the puts and the record's lines of an earlier one
  agreed-then : (early late : ℕ) → start.disk.beat ≤ early → early ≤ old.disk.beat → ((file : ℕ) (image : List ℕ) → IsLeft new.disk file late image → IsLeft old.disk file early image)
      → up_to late (told_list old.link.puts) ≡ up_to early (told_list old.link.puts) → up_to late (told_list old.link.said) ≡ up_to early (told_list old.link.said) → Agreed plain start new late
  agreed-then early late from le images puts said =
      let had : Agreed plain start old early = so_far.each early from le in
      let same : up_to late (told_list new.link.puts) ≡ up_to early (told_list old.link.puts) = ap (λ (l : Option (List (ℕ × Parcel))). up_to late (told_list l)) says.puts ∙ puts in
      let only : OnlyChanges plain None None None old early new late = record {
        past = λ at image past. says.disk.goes_on.past 0 at image (omega (arith, past, le));
        images = λ file low other. images file;
        puts = same;
        lines = λ image records left stands bytes line was.
            inr (said-then early late said bytes (subst IsRecordLine (sym line.is) line.looks) was);
      } in
      let kept = images_shrink plain (puts_of start) old early new late only had.good had.held in
      record { good = kept.0; held = kept.1; fresh = λ run own fresh. fresh_shrinks old early new late (λ file low. images file) same run (had.fresh run own fresh) }

  pub since-others : AgreedSince plain start new
  since-others = record {
    told = subst IsTrue (sym says.disk.goes_on.told) so_far.told;
    later = omega (arith, so_far.later, says.disk.goes_on.later);
    each = λ beat from to. elim (cases_lt beat old.disk.beat) [
      | inl early ↦ agreed-then beat beat from (omega (arith, early)) (λ file image left. subst IsTrue (says.disk.goes_on.past file beat image (omega (arith, early))) left) refl refl
      | inr late ↦ agreed-then old.disk.beat beat so_far.later (omega arith)
          (λ file image left. subst IsTrue ((says.disk.stays file).images beat image late to) left)
          (same_entries old.disk.beat beat old.link.puts old.link.puts refl late time.puts)
          (same_entries old.disk.beat beat old.link.said old.link.said refl late time.said)
    ];
  }
