-- What a call changes at each of its beats, in the words of the laws from beat to beat.
use Rattle.std.proofs.Common.{◌≡◌, ◌⊎◌, inl, inr, ℕ, ◌≤◌, ◌<◌, List, [], ◌∷◌, ◌++◌, refl, sym, ◌∙◌, subst, ap, IsTrue, arith}
use Rattle.std.specs.Prelude.{Contains, Option, Some, None}
use Rattle.std.proofs.lemmas.Bool.{cases_lt}
use Rattle.std.proofs.lemmas.List.Elements.{Contains-push_cases}
use Rattle.cacao_site.specs.View.{SiteView}
use Rattle.cacao_site.specs.declared.parcel.Parcel.{Parcel}
use Rattle.cacao_site.specs.DiskCalls.{GoesOn, KeepsDisk, OnlyFile, StaysAt}
use Rattle.cacao_site.specs.LinkCalls.{Gains}
use Rattle.cacao_site.specs.SiteCalls.{Puts}
use Rattle.cacao_site.specs.Sound.{IsSound}
use Rattle.flow_laws.specs.Beats.{Among, OnlyChanges}
use Rattle.flow_laws.specs.Held.{plain}
use Rattle.flow_laws.specs.Images.{up_to, told_list, puts_to, WasSaid}
use Rattle.flow_laws.proofs.Calls.{gained_before, gained_now, same_entries}

-- up to past beats the link shows what it showed
pub record LinkGoesOn (old new : SiteView) : Type 0 where
  pub puts : (beat : ℕ) → beat < old.disk.beat → puts_to new beat ≡ puts_to old beat
  pub said : (beat : ℕ) → beat < old.disk.beat → up_to beat (told_list new.link.said) ≡ up_to beat (told_list old.link.said)

said_before : (old new : SiteView) (at beat : ℕ) (bytes : List ℕ) → up_to at (told_list new.link.said) ≡ up_to beat (told_list old.link.said) → WasSaid new at bytes → WasSaid old beat bytes
said_before old new at beat bytes same said = record { at = said.at; has = subst (λ (l : List (ℕ × List ℕ)). Contains l (said.at, bytes)) same said.has }

-- nothing changes at a beat before the call
pub past_changes : (old new : SiteView) (beat : ℕ) → GoesOn old.disk new.disk → LinkGoesOn old new → beat < old.disk.beat → OnlyChanges plain None None None old beat new beat
past_changes old new beat on link early = record {
  past = λ at image le. on.past 0 at image (omega (arith, le, early));
  images = λ file le other image left. subst IsTrue (on.past file beat image (omega (arith, early))) left;
  puts = link.puts beat early;
  lines = λ image records left stands bytes line said. inr (said_before old new beat beat bytes (link.said beat early) said);
}

pub same_link : (old new : SiteView) → new.link.puts ≡ old.link.puts → new.link.said ≡ old.link.said → LinkGoesOn old new
same_link old new puts said = record {
  puts = λ beat lt. ap (λ (l : Option (List (ℕ × Parcel))). up_to beat (told_list l)) puts;
  said = λ beat lt. ap (λ (l : Option (List (ℕ × List ℕ))). up_to beat (told_list l)) said;
}

abbrev pub EachStays : SiteView → SiteView → Type 0
EachStays old new = (file : ℕ) → StaysAt old.disk new.disk file

module _ (old new : SiteView) (sound : IsSound old) where
  pub same_puts : new.link.puts ≡ old.link.puts → (beat : ℕ) → old.disk.beat ≤ beat → puts_to new beat ≡ puts_to old old.disk.beat
  same_puts puts beat le = same_entries old.disk.beat beat old.link.puts new.link.puts puts le sound.puts.past

  same_said : new.link.said ≡ old.link.said → (beat : ℕ) → old.disk.beat ≤ beat → (bytes : List ℕ) → WasSaid new beat bytes → WasSaid old old.disk.beat bytes
  same_said said beat le bytes was = said_before old new beat old.disk.beat bytes (same_entries old.disk.beat beat old.link.said new.link.said said le sound.said.past) was

  stay_among : EachStays old new → (beat : ℕ) → old.disk.beat ≤ beat → beat ≤ new.disk.beat → (file : ℕ) → Among file old old.disk.beat new beat
  stay_among stays beat from to file image left = subst IsTrue ((stays file).images beat image from to) left

  -- nothing at all
  pub quiet_changes : GoesOn old.disk new.disk → EachStays old new → new.link.puts ≡ old.link.puts → new.link.said ≡ old.link.said → (beat : ℕ) → old.disk.beat ≤ beat → beat ≤ new.disk.beat
      → OnlyChanges plain None None None old old.disk.beat new beat
  quiet_changes on stays puts said beat from to = record {
    past = on.past 0;
    images = λ file le other. stay_among stays beat from to file;
    puts = same_puts puts beat from;
    lines = λ image records left stands bytes line was. inr (same_said said beat from bytes was);
  }

  -- at the beat at which a call began, where the link stays
  pub begun_changes : GoesOn old.disk new.disk → new.link.puts ≡ old.link.puts → new.link.said ≡ old.link.said → OnlyChanges plain None None None old old.disk.beat new old.disk.beat
  begun_changes on puts said = record {
    past = on.past 0;
    images = λ file le other image left. subst IsTrue (on.past file old.disk.beat image (omega arith)) left;
    puts = same_puts puts old.disk.beat (omega arith);
    lines = λ image records left stands bytes line was. inr (same_said said old.disk.beat (omega arith) bytes was);
  }

  -- the journal alone
  pub journal_changes : (P : List ℕ → Type 0) → OnlyFile 0 old new P → (beat : ℕ) → old.disk.beat ≤ beat → beat ≤ new.disk.beat
      → OnlyChanges plain (Some 0) None None old old.disk.beat new beat
  journal_changes P only beat from to = record {
    past = only.each.goes_on.past 0;
    images = λ other le ne image left. subst IsTrue ((only.others other ne).images beat image from to) left;
    puts = same_puts (ap (λ l. l.puts) only.rest.link) beat from;
    lines = λ image records left stands bytes line was. inr (same_said (ap (λ l. l.said) only.rest.link) beat from bytes was);
  }

  -- a parcel was put, or lost
  module _ (parcel : Parcel) (puts : Puts parcel old new) where
    pub put_link : LinkGoesOn old new
    put_link = record {
      puts = λ beat lt. elim puts.puts [
        | inl gained ↦ gained_before beat new.disk.beat old.link.puts new.link.puts parcel gained (omega (arith, lt, puts.disk.disk.goes_on.later))
        | inr lost ↦ ap (λ (l : Option (List (ℕ × Parcel))). up_to beat (told_list l)) lost.0
      ];
      said = λ beat lt. ap (λ (l : Option (List (ℕ × List ℕ))). up_to beat (told_list l)) puts.said;
    }

    -- at each beat the puts are as they were, or have the parcel more at that very beat
    put_cases : (beat : ℕ) → old.disk.beat ≤ beat → beat ≤ new.disk.beat
        → (puts_to new beat ≡ puts_to old old.disk.beat) ⊎ (puts_to new beat ≡ puts_to old old.disk.beat ++ (beat, parcel) ∷ [])
    put_cases beat from to = elim puts.puts [
      | inr lost ↦ inl (same_puts lost.0 beat from)
      | inl gained ↦ elim (cases_lt beat new.disk.beat) [
        | inl early ↦ inl (gained_before beat new.disk.beat old.link.puts new.link.puts parcel gained early ∙ same_entries old.disk.beat beat old.link.puts old.link.puts refl from sound.puts.past)
        | inr late ↦
            let e : new.disk.beat ≡ beat = omega (arith, late, to) in
            elim (gained_now old.disk.beat new.disk.beat old.link.puts new.link.puts parcel gained puts.disk.disk.goes_on.later sound.puts.past) [
              | inl more ↦ inr (subst (λ (n : ℕ). up_to n (told_list new.link.puts) ≡ up_to old.disk.beat (told_list old.link.puts) ++ (n, parcel) ∷ []) e more)
              | inr none ↦ inl (subst (λ (n : ℕ). up_to n (told_list new.link.puts) ≡ up_to old.disk.beat (told_list old.link.puts)) e none)
            ]
      ]
    ]

    pub put_changes : (beat : ℕ) → old.disk.beat ≤ beat → beat ≤ new.disk.beat
        → OnlyChanges plain None None None old old.disk.beat new beat ⊎ OnlyChanges plain None (Some parcel) None old old.disk.beat new beat
    put_changes beat from to = elim (put_cases beat from to) [
      | inl same ↦ inl (record {
        past = puts.disk.disk.goes_on.past 0;
        images = λ file le other. stay_among puts.disk.disk.stays beat from to file;
        puts = same;
        lines = λ image records left stands bytes line was. inr (same_said puts.said beat from bytes was);
      })
      | inr more ↦ inr (record {
        past = puts.disk.disk.goes_on.past 0;
        images = λ file le other. stay_among puts.disk.disk.stays beat from to file;
        puts = more;
        lines = λ image records left stands bytes line was. inr (same_said puts.said beat from bytes was);
      })
    ]

  -- a line was said
  module _ (line : List ℕ) (keeps : KeepsDisk old.disk new.disk) (puts : new.link.puts ≡ old.link.puts) (gained : Gains old.link.said (new.disk.beat, line) new.link.said) where
    pub line_link : LinkGoesOn old new
    line_link = record {
      puts = λ beat lt. ap (λ (l : Option (List (ℕ × Parcel))). up_to beat (told_list l)) puts;
      said = λ beat lt. gained_before beat new.disk.beat old.link.said new.link.said line gained (omega (arith, lt, keeps.goes_on.later));
    }

    -- at a beat of the call a line was said before, or is the one that is said
    line_cases : (beat : ℕ) → old.disk.beat ≤ beat → beat ≤ new.disk.beat → (other : List ℕ) → WasSaid new beat other → (other ≡ line) ⊎ WasSaid old old.disk.beat other
    line_cases beat from to other said = elim (cases_lt beat new.disk.beat) [
      | inl early ↦ inr (said_before old new beat old.disk.beat other
          (gained_before beat new.disk.beat old.link.said new.link.said line gained early ∙ same_entries old.disk.beat beat old.link.said old.link.said refl from sound.said.past) said)
      | inr late ↦
          let e : beat ≡ new.disk.beat = omega (arith, late, to) in
          let said_now : WasSaid new new.disk.beat other = subst (λ (n : ℕ). WasSaid new n other) e said in
          elim (gained_now old.disk.beat new.disk.beat old.link.said new.link.said line gained keeps.goes_on.later sound.said.past) [
            | inl more ↦ elim (Contains-push_cases (up_to old.disk.beat (told_list old.link.said)) (new.disk.beat, line) (said_now.at, other)
                (subst (λ (l : List (ℕ × List ℕ)). Contains l (said_now.at, other)) more said_now.has)) [
                  | inl was ↦ inr (record { at = said_now.at; has = was })
                  | inr is ↦ inl (sym (ap (λ (x : ℕ × List ℕ). x.1) is))
                ]
            | inr none ↦ inr (said_before old new new.disk.beat old.disk.beat other none said_now)
          ]
    ]

    pub line_changes : (beat : ℕ) → old.disk.beat ≤ beat → beat ≤ new.disk.beat → OnlyChanges plain None None (Some line) old old.disk.beat new beat
    line_changes beat from to = record {
      past = keeps.goes_on.past 0;
      images = λ file le other. stay_among keeps.stays beat from to file;
      puts = same_puts puts beat from;
      lines = λ image records left are other is_line said. line_cases beat from to other said;
    }
