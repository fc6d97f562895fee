-- From what a call says of the site to agreement at each of its beats.
use Rattle.std.proofs.Common.{◌≡◌, ◌≢◌, ◌⊎◌, inl, inr, ℕ, suc, ◌≤◌, ◌<◌, nat_le, Bool, true, false, List, [], ◌∷◌, ◌++◌, refl, sym, ◌∙◌, subst, ap, IsTrue, arith, All, if◌then◌else◌}
use Rattle.std.specs.Prelude.{Contains, Option, Some, None, IfSome}
use Rattle.std.proofs.lemmas.Bool.{both_ways, cases_eq, cases_lt, lt-leb, le-leb}
use Rattle.std.proofs.lemmas.List.{append-nil}
use Rattle.std.proofs.lemmas.List.Elements.{filter-append, Contains-push_cases}
use Rattle.cacao_site.specs.View.{SiteView}
use Rattle.cacao_site.specs.declared.parcel.Parcel.{Parcel}
use Rattle.cacao_site.specs.DiskCalls.{IsLeft, GoesOn, KeepsDisk, OnlyFile}
use Rattle.cacao_site.specs.LinkCalls.{Gains}
use Rattle.cacao_site.specs.SiteCalls.{Puts}
use Rattle.cacao_site.specs.Sound.{IsSound}
use Rattle.cacao_site.proofs.Beats.{told-goes_on}
use Rattle.run_records.specs.declared.record.Record.{Record}
use Rattle.run_records.specs.declared.act.Act.{Act}
use Rattle.flow_laws.specs.Acts.{HasReply, IsBytes}
use Rattle.flow_laws.specs.Images.{up_to, told_list, puts_to, puts_of, WasSaid, IsRecords, IsActs, IsAgent, HasImage, AnyJournal, EachJournal, EachFilter, HasBegun}
use Rattle.flow_laws.specs.Held.{Speech, IsLineOf, IsRunLine, HasOpenSend}
use Rattle.flow_laws.specs.Beats.{OnlyChanges, Among, GainsRecord, IsFurther, IsFurtherAct}
use Rattle.flow_laws.specs.Since.{Agreed, AgreedSince}
use Rattle.flow_laws.specs.Fresh.{IsFresh, IsUnused}
use Rattle.flow_laws.specs.Journals.{run_of}
use Rattle.flow_laws.specs.Sessions.{IsStart}
use Rattle.flow_laws.proofs.Basics.{begun, same_entry}
use Rattle.flow_laws.proofs.OneList.{same_acts}
use Rattle.flow_laws.proofs.Shrink.{SamePuts, SamePast, images_shrink}
use Rattle.flow_laws.proofs.Record.{record_is_gained}
use Rattle.flow_laws.proofs.Act.{act_is_gained}
use Rattle.flow_laws.proofs.Puts.{command_is_put, reply_is_put}
use Rattle.flow_laws.proofs.Foreign.{foreign_is_put}
use Rattle.flow_laws.proofs.Says.{line_is_said}
use Rattle.flow_laws.proofs.Fresh.{fresh_shrinks, fresh_gains, fresh_begun}

-- ---- entries up to a beat

-- a later entry isn't there before
pub later_entry : {T : Type 0} (beat at : ℕ) (entries : List (ℕ × T)) (entry : T) → beat < at → up_to beat (entries ++ (at, entry) ∷ []) ≡ up_to beat entries
later_entry {T} beat at entries entry lt =
    filter-append (λ (e : ℕ × T). nat_le e.0 beat) entries ((at, entry) ∷ [])
    ∙ ap (λ (b : Bool). up_to beat entries ++ (if b then (at, entry) ∷ [] else [])) (lt-leb at beat lt)
    ∙ append-nil (up_to beat entries)

-- an entry of the beat is there
pub entry_now : {T : Type 0} (beat at : ℕ) (entries : List (ℕ × T)) (entry : T) → at ≤ beat → up_to beat (entries ++ (at, entry) ∷ []) ≡ up_to beat entries ++ (at, entry) ∷ []
entry_now {T} beat at entries entry le =
    filter-append (λ (e : ℕ × T). nat_le e.0 beat) entries ((at, entry) ∷ [])
    ∙ ap (λ (b : Bool). up_to beat entries ++ (if b then (at, entry) ∷ [] else [])) (le-leb at beat le)

-- all entries are past
pub all_past : {T : Type 0} (beat : ℕ) (entries : List (ℕ × T)) → All (λ (e : ℕ × T). e.0 ≤ beat) entries → up_to beat entries ≡ entries
all_past beat [] all = refl
all_past {T} beat (e ∷ entries) all =
    ap (λ (b : Bool). if b then e ∷ up_to beat entries else up_to beat entries) (le-leb e.0 beat (all 0 e (omega arith)))
    ∙ ap (λ (l : List (ℕ × T)). e ∷ l) (all_past beat entries (λ k d lt. all (suc k) d (omega (arith, lt))))

all_later : {T : Type 0} (beat at : ℕ) (entries : List (ℕ × T)) → beat ≤ at → All (λ (e : ℕ × T). e.0 ≤ beat) entries → All (λ (e : ℕ × T). e.0 ≤ at) entries
all_later beat at entries le all k d lt = omega (arith, all k d lt, le)

told_past : {T : Type 0} (beat at : ℕ) (list : Option (List (ℕ × T))) → beat ≤ at → IfSome list (λ l. All (λ (e : ℕ × T). e.0 ≤ beat) l) → up_to at (told_list list) ≡ told_list list
told_past beat at None le past = refl
told_past beat at (Some list) le past = all_past at list (all_later beat at list le past)

-- a list that stays shows the same now as then
pub same_entries : {T : Type 0} (beat at : ℕ) (old new : Option (List (ℕ × T))) → new ≡ old → beat ≤ at → IfSome old (λ l. All (λ (e : ℕ × T). e.0 ≤ beat) l)
    → up_to at (told_list new) ≡ up_to beat (told_list old)
same_entries {T} beat at old new same le past =
    ap (λ (l : Option (List (ℕ × T))). up_to at (told_list l)) same ∙ told_past beat at old le past ∙ sym (told_past beat beat old (omega arith) past)

-- a list that gains an entry
pub gained_before : {T : Type 0} (beat at : ℕ) (old new : Option (List (ℕ × T))) (entry : T) → Gains old (at, entry) new → beat < at
    → up_to beat (told_list new) ≡ up_to beat (told_list old)
gained_before {T} beat at (Some old) (Some new) entry is lt = ap (λ (l : List (ℕ × T)). up_to beat l) is ∙ later_entry beat at old entry lt
gained_before beat at None None entry is lt = refl
gained_before beat at (Some old) None entry is lt = absurd is
gained_before beat at None (Some new) entry is lt = absurd is

pub gained_now : {T : Type 0} (beat at : ℕ) (old new : Option (List (ℕ × T))) (entry : T) → Gains old (at, entry) new → beat ≤ at
    → IfSome old (λ l. All (λ (e : ℕ × T). e.0 ≤ beat) l)
    → (up_to at (told_list new) ≡ up_to beat (told_list old) ++ (at, entry) ∷ []) ⊎ (up_to at (told_list new) ≡ up_to beat (told_list old))
gained_now {T} beat at (Some old) (Some new) entry is le past =
    inl (ap (λ (l : List (ℕ × T)). up_to at l) is ∙ entry_now at at old entry (omega arith)
    ∙ ap (λ (l : List (ℕ × T)). l ++ (at, entry) ∷ []) (all_past at old (all_later beat at old le past) ∙ sym (all_past beat old past)))
gained_now beat at None None entry is le past = inr refl
gained_now beat at (Some old) None entry is le past = absurd is
gained_now beat at None (Some new) entry is le past = absurd is

-- ---- where a session begins

pub since_start : (speech : Speech) (start : SiteView) → IsTrue start.disk.told → IsStart speech start → AgreedSince speech start start
since_start speech start told is = record {
  told = told;
  later = omega arith;
  each = λ beat from to.
      let e : start.disk.beat ≡ beat = omega (arith, from, to) in
      subst (λ (n : ℕ). Agreed speech start start n) e (record { good = is.good; held = is.held; fresh = λ run own fresh. fresh });
}

-- ---- one call more

abbrev EachStays : SiteView → SiteView → Type 0
EachStays old new = (file : ℕ) → file ≤ 16 → (beat : ℕ) (image : List ℕ) → old.disk.beat ≤ beat → beat ≤ new.disk.beat → IsLeft new.disk file beat image
    → IsLeft old.disk file old.disk.beat image

-- up to past beats the link shows what it showed
record LinkGoesOn (old new : SiteView) : Type 0 where
  pub puts : (beat : ℕ) → beat < old.disk.beat → puts_to new beat ≡ puts_to old beat
  pub said : (beat : ℕ) → beat < old.disk.beat → up_to beat (told_list new.link.said) ≡ up_to beat (told_list old.link.said)

said_before : (old new : SiteView) (at beat : ℕ) (bytes : List ℕ) → up_to at (told_list new.link.said) ≡ up_to beat (told_list old.link.said) → WasSaid new at bytes → WasSaid old beat bytes
said_before old new at beat bytes same said = record { at = said.at; has = subst (λ (l : List (ℕ × List ℕ)). Contains l (said.at, bytes)) same said.has }

module _ (speech : Speech) (start old new : SiteView) (so_far : AgreedSince speech start old) where
  -- agreement at past beats stays, so the beats of the call are left to show
  extend : GoesOn old.disk new.disk → LinkGoesOn old new → ((beat : ℕ) → old.disk.beat ≤ beat → beat ≤ new.disk.beat → Agreed speech start new beat) → AgreedSince speech start new
  extend on link here = record {
    told = told-goes_on on so_far.told;
    later = omega (arith, so_far.later, on.later);
    each = λ beat from to. elim (cases_lt beat old.disk.beat) [
      | inl early ↦
          let had = so_far.each beat from (omega (arith, early)) in
          let images : (file : ℕ) → file ≤ 16 → Among file old beat new beat = λ file le image left. subst IsTrue (on.past file beat image (omega (arith, early))) left in
          let only : OnlyChanges speech None None None old beat new beat = record {
            past = λ at image le. on.past 0 at image (omega (arith, le, early));
            images = λ file le other. images file le;
            puts = link.puts beat early;
            lines = λ image records left stands bytes line said. inr (said_before old new beat beat bytes (link.said beat early) said);
          } in
          let kept = images_shrink speech (puts_of start) old beat new beat only had.good had.held in
          record { good = kept.0; held = kept.1; fresh = λ run own fresh. fresh_shrinks old beat new beat images (link.puts beat early) run (had.fresh run own fresh) }
      | inr late ↦ here beat late to
    ];
  }

  now : Agreed speech start old old.disk.beat
  now = so_far.each old.disk.beat so_far.later (omega arith)

  same_link : new.link.puts ≡ old.link.puts → new.link.said ≡ old.link.said → LinkGoesOn old new
  same_link puts said = record {
    puts = λ beat lt. ap (λ (l : Option (List (ℕ × Parcel))). up_to beat (told_list l)) puts;
    said = λ beat lt. ap (λ (l : Option (List (ℕ × List ℕ))). up_to beat (told_list l)) said;
  }

  module _ (sound : IsSound old) where
    same_puts : new.link.puts ≡ old.link.puts → (beat : ℕ) → old.disk.beat ≤ beat → SamePuts old old.disk.beat new beat
    same_puts puts beat le = same_entries old.disk.beat beat old.link.puts new.link.puts puts le sound.puts.past

    same_said : new.link.said ≡ old.link.said → (beat : ℕ) → old.disk.beat ≤ beat → (bytes : List ℕ) → WasSaid new beat bytes → WasSaid old old.disk.beat bytes
    same_said said beat le bytes was = said_before old new beat old.disk.beat bytes (same_entries old.disk.beat beat old.link.said new.link.said said le sound.said.past) was

    -- nothing changed at a beat of the call
    quiet : SamePast old old.disk.beat new → (beat : ℕ) → ((file : ℕ) → file ≤ 16 → Among file old old.disk.beat new beat) → SamePuts old old.disk.beat new beat
        → ((bytes : List ℕ) → WasSaid new beat bytes → WasSaid old old.disk.beat bytes) → Agreed speech start new beat
    quiet past beat images puts said =
        let only : OnlyChanges speech None None None old old.disk.beat new beat = record {
          past = past;
          images = λ file le other. images file le;
          puts = puts;
          lines = λ image records left stands bytes line was. inr (said bytes was);
        } in
        let kept = images_shrink speech (puts_of start) old old.disk.beat new beat only now.good now.held in
        record { good = kept.0; held = kept.1; fresh = λ run own fresh. fresh_shrinks old old.disk.beat new beat images puts run (now.fresh run own fresh) }

    -- nothing was written, put or said
    pub since_quiet : GoesOn old.disk new.disk → EachStays old new → new.link.puts ≡ old.link.puts → new.link.said ≡ old.link.said → AgreedSince speech start new
    since_quiet on stays puts said = extend on (same_link puts said) (λ beat from to.
        quiet (on.past 0) beat (λ file le image left. stays file le beat image from to left) (same_puts puts beat from) (same_said said beat from))

    other_stays : (file other : ℕ) (P : List ℕ → Type 0) → OnlyFile file old new P → other ≢ file → (beat : ℕ) → old.disk.beat ≤ beat → beat ≤ new.disk.beat → Among other old old.disk.beat new beat
    other_stays file other P only ne beat from to image left = subst IsTrue ((only.others other ne).images beat image from to) left

    -- one file alone changed
    only_file : (file : ℕ) (P : List ℕ → Type 0) → OnlyFile file old new P → (beat : ℕ) → old.disk.beat ≤ beat → beat ≤ new.disk.beat
        → OnlyChanges speech (Some file) None None old old.disk.beat new beat
    only_file file P only beat from to = record {
      past = only.each.goes_on.past 0;
      images = λ other le ne. other_stays file other P only ne beat from to;
      puts = same_puts (ap (λ l. l.puts) only.rest.link) beat from;
      lines = λ image records left stands bytes line was. inr (same_said (ap (λ l. l.said) only.rest.link) beat from bytes was);
    }

    -- the journal gained a record, or may have
    pub since_record : (records : List Record) (next : Record) → OnlyFile 0 old new (λ image. IsRecords image records ⊎ IsRecords image (records ++ next ∷ []))
        → HasImage old 0 old.disk.beat → ((image : List ℕ) → IsLeft old.disk 0 old.disk.beat image → IsRecords image records) → IsFurther speech old old.disk.beat records next
        → AgreedSince speech start new
    since_record records next only some before further = extend only.each.goes_on (same_link (ap (λ l. l.puts) only.rest.link) (ap (λ l. l.said) only.rest.link)) (λ beat from to.
        let gains : GainsRecord speech old old.disk.beat new beat records next = record {
          only = only_file 0 _ only beat from to;
          some = some;
          before = before;
          now = λ image left. only.each.each so_far.told beat image from to left;
          further = further;
        } in
        let kept = record_is_gained speech (puts_of start) old old.disk.beat new beat records next gains now.good now.held in
        record { good = kept.0; held = kept.1; fresh = λ run own fresh. fresh_gains speech (puts_of start) old old.disk.beat new beat records next gains run (now.fresh run own fresh) })

    -- a filter's file gained an act, or may have
    pub since_act : (agent : ℕ) (acts : List Act) (act : Act) → IsAgent agent → OnlyFile agent old new (λ image. IsActs image acts ⊎ IsActs image (acts ++ act ∷ []))
        → HasImage old agent old.disk.beat → ((image : List ℕ) → IsLeft old.disk agent old.disk.beat image → IsActs image acts) → IsFurtherAct old old.disk.beat agent acts act
        → HasBegun old old.disk.beat → AgreedSince speech start new
    since_act agent acts act is only some before further begun = extend only.each.goes_on (same_link (ap (λ l. l.puts) only.rest.link) (ap (λ l. l.said) only.rest.link)) (λ beat from to.
        let not_zero : 0 ≢ agent = λ e. absurd (omega (arith, e, is.0)) in
        let kept = act_is_gained speech (puts_of start) old old.disk.beat new beat agent acts act (record {
          is_agent = is;
          only = only_file agent _ only beat from to;
          some = some;
          before = before;
          now = λ image left. only.each.each so_far.told beat image from to left;
          further = further;
        }) now.good now.held in
        record {
          good = kept.0;
          held = kept.1;
          fresh = λ run own fresh. fresh_begun new beat (λ image left. begun image (other_stays agent 0 _ only not_zero beat from to image left)) run;
        })

    keeps_stay : KeepsDisk old.disk new.disk → EachStays old new
    keeps_stay keeps file le beat image from to left = subst IsTrue ((keeps.stays file).images beat image from to) left

    -- a parcel was put, or lost
    module _ (parcel : Parcel) (puts : Puts parcel old new) where
      put_link : LinkGoesOn old new
      put_link = record {
        puts = λ beat lt. elim puts.puts [
          | inl gained ↦ gained_before beat new.disk.beat old.link.puts new.link.puts parcel gained (omega (arith, lt, puts.disk.disk.goes_on.later))
          | inr lost ↦ ap (λ (l : Option (List (ℕ × Parcel))). up_to beat (told_list l)) lost.0
        ];
        said = λ beat lt. ap (λ (l : Option (List (ℕ × List ℕ))). up_to beat (told_list l)) puts.said;
      }

      -- at each beat the puts are as they were, or have the parcel more at that very beat
      put_cases : (beat : ℕ) → old.disk.beat ≤ beat → beat ≤ new.disk.beat
          → SamePuts old old.disk.beat new beat ⊎ (puts_to new beat ≡ puts_to old old.disk.beat ++ (beat, parcel) ∷ [])
      put_cases beat from to = elim puts.puts [
        | inr lost ↦ inl (same_puts lost.0 beat from)
        | inl gained ↦ elim (cases_lt beat new.disk.beat) [
          | inl early ↦ inl (gained_before beat new.disk.beat old.link.puts new.link.puts parcel gained early ∙ same_entries old.disk.beat beat old.link.puts old.link.puts refl from sound.puts.past)
          | inr late ↦
              let e : new.disk.beat ≡ beat = omega (arith, late, to) in
              elim (gained_now old.disk.beat new.disk.beat old.link.puts new.link.puts parcel gained puts.disk.disk.goes_on.later sound.puts.past) [
                | inl more ↦ inr (subst (λ (n : ℕ). up_to n (told_list new.link.puts) ≡ up_to old.disk.beat (told_list old.link.puts) ++ (n, parcel) ∷ []) e more)
                | inr none ↦ inl (subst (λ (n : ℕ). up_to n (told_list new.link.puts) ≡ up_to old.disk.beat (told_list old.link.puts)) e none)
              ]
        ]
      ]

      put_images : (beat : ℕ) → old.disk.beat ≤ beat → beat ≤ new.disk.beat → (file : ℕ) → file ≤ 16 → Among file old old.disk.beat new beat
      put_images beat from to file le image left = keeps_stay puts.disk.disk file le beat image from to left

      put_quiet : (beat : ℕ) → old.disk.beat ≤ beat → beat ≤ new.disk.beat → SamePuts old old.disk.beat new beat → Agreed speech start new beat
      put_quiet beat from to same = quiet (puts.disk.disk.goes_on.past 0) beat (put_images beat from to) same (same_said puts.said beat from)

      put_only : (beat : ℕ) → old.disk.beat ≤ beat → beat ≤ new.disk.beat → puts_to new beat ≡ puts_to old old.disk.beat ++ (beat, parcel) ∷ []
          → OnlyChanges speech None (Some parcel) None old old.disk.beat new beat
      put_only beat from to more = record {
        past = puts.disk.disk.goes_on.past 0;
        images = λ file le other. put_images beat from to file le;
        puts = more;
        lines = λ image records left stands bytes line was. inr (same_said puts.said beat from bytes was);
      }

      pub since_command : parcel.back ≡ false → EachJournal old old.disk.beat (λ records. HasOpenSend records parcel) → AgreedSince speech start new
      since_command command sent = extend puts.disk.disk.goes_on put_link (λ beat from to. elim (put_cases beat from to) [
        | inl same ↦ put_quiet beat from to same
        | inr more ↦
            let kept = command_is_put speech (puts_of start) old old.disk.beat new beat parcel (record { only = put_only beat from to more; command = command; sent = sent }) now.good now.held in
            record {
              good = kept.0;
              held = kept.1;
              fresh = λ run own fresh. fresh_begun new beat (λ image left.
                  let there = sent image (put_images beat from to 0 (omega arith) image left) in
                  record { records = there.records; are = there.are; so = begun there.records parcel.run there.so.of_run }) run;
            }
      ])

      pub since_reply : parcel.back ≡ true → IsAgent parcel.agent → EachFilter old old.disk.beat parcel.agent (λ acts. HasReply acts parcel.run parcel.issue (IsBytes parcel.bytes))
          → HasBegun old old.disk.beat → AgreedSince speech start new
      since_reply reply is acted has_begun = extend puts.disk.disk.goes_on put_link (λ beat from to. elim (put_cases beat from to) [
        | inl same ↦ put_quiet beat from to same
        | inr more ↦
            let kept = reply_is_put speech (puts_of start) old old.disk.beat new beat parcel (record { only = put_only beat from to more; back = reply; is_agent = is; acted = acted }) now.good now.held in
            record { good = kept.0; held = kept.1; fresh = λ run own fresh. fresh_begun new beat (λ image left. has_begun image (put_images beat from to 0 (omega arith) image left)) run }
      ])

      -- a number that is another's stays unused
      unused_still : (beat : ℕ) → old.disk.beat ≤ beat → beat ≤ new.disk.beat → puts_to new beat ≡ puts_to old old.disk.beat ++ (beat, parcel) ∷ []
          → (run : ℕ) → parcel.run ≢ run → IsFresh old run old.disk.beat → IsFresh new run beat
      unused_still beat from to more run other fresh = record {
        unused = λ image left empty.
            let was = fresh.unused image (put_images beat from to 0 (omega arith) image left) empty in
            record {
              acts = λ agent file acts act is there. was.acts agent file acts act is (put_images beat from to agent is.1 file there);
              puts = λ at it has. elim (Contains-push_cases (puts_to old old.disk.beat) (beat, parcel) (at, it)
                  (subst (λ (l : List (ℕ × Parcel)). Contains l (at, it)) more has)) [
                    | inl before ↦ was.puts at it before
                    | inr is ↦ subst (λ (p : Parcel). p.run ≢ run) (same_entry is) other
                  ];
            };
      }

      -- a command of another run was put, or lost
      pub since_foreign : parcel.back ≡ false → speech.is_own parcel.run ≡ false
          → AnyJournal old old.disk.beat (λ records. run_of records ≢ Some parcel.run) → AgreedSince speech start new
      since_foreign command foreign others = extend puts.disk.disk.goes_on put_link (λ beat from to. elim (put_cases beat from to) [
        | inl same ↦ put_quiet beat from to same
        | inr more ↦
            let kept = foreign_is_put speech (puts_of start) old old.disk.beat new beat parcel
            (record { only = put_only beat from to more; command = command; foreign = foreign; others = others }) now.good now.held in
            record {
              good = kept.0;
              held = kept.1;
              fresh = λ run own fresh. unused_still beat from to more run
                  (λ e. both_ways (speech.is_own run) (subst (λ (n : ℕ). speech.is_own n ≡ false) e foreign) own)
                  (now.fresh run own fresh);
            }
      ])

    -- at a beat of the call a line was said before, or is the one that is said
    line_cases : (bytes : List ℕ) → old.disk.beat ≤ new.disk.beat → Gains old.link.said (new.disk.beat, bytes) new.link.said → (beat : ℕ) → old.disk.beat ≤ beat → beat ≤ new.disk.beat
        → (other : List ℕ) → WasSaid new beat other → (other ≡ bytes) ⊎ WasSaid old old.disk.beat other
    line_cases line later gained beat from to other said = elim (cases_lt beat new.disk.beat) [
      | inl early ↦ inr (said_before old new beat old.disk.beat other
          (gained_before beat new.disk.beat old.link.said new.link.said line gained early ∙ same_entries old.disk.beat beat old.link.said old.link.said refl from sound.said.past) said)
      | inr late ↦
          let e : beat ≡ new.disk.beat = omega (arith, late, to) in
          let said_now : WasSaid new new.disk.beat other = subst (λ (n : ℕ). WasSaid new n other) e said in
          elim (gained_now old.disk.beat new.disk.beat old.link.said new.link.said line gained later sound.said.past) [
            | inl more ↦ elim (Contains-push_cases (up_to old.disk.beat (told_list old.link.said)) (new.disk.beat, line) (said_now.at, other)
                (subst (λ (l : List (ℕ × List ℕ)). Contains l (said_now.at, other)) more said_now.has)) [
                  | inl was ↦ inr (record { at = said_now.at; has = was })
                  | inr is ↦ inl (sym (ap (λ (x : ℕ × List ℕ). x.1) is))
                ]
            | inr none ↦ inr (said_before old new new.disk.beat old.disk.beat other none said_now)
          ]
    ]

    -- a record's line was said
    pub since_line : (bytes : List ℕ) → KeepsDisk old.disk new.disk → new.link.puts ≡ old.link.puts → Gains old.link.said (new.disk.beat, bytes) new.link.said
        → EachJournal old old.disk.beat (λ records. IsLineOf speech records bytes) → AgreedSince speech start new
    since_line line keeps puts gained stands = extend keeps.goes_on
        (record {
          puts = λ beat lt. ap (λ (l : Option (List (ℕ × Parcel))). up_to beat (told_list l)) puts;
          said = λ beat lt. gained_before beat new.disk.beat old.link.said new.link.said line gained (omega (arith, lt, keeps.goes_on.later));
        })
        (λ beat from to.
        let images : (file : ℕ) → file ≤ 16 → Among file old old.disk.beat new beat = λ file le image left. keeps_stay keeps file le beat image from to left in
        let only : OnlyChanges speech None None (Some line) old old.disk.beat new beat = record {
          past = keeps.goes_on.past 0;
          images = λ file le other. images file le;
          puts = same_puts puts beat from;
          lines = λ image records left are other is_line said. line_cases line keeps.goes_on.later gained beat from to other said;
        } in
        let kept = line_is_said speech (puts_of start) old old.disk.beat new beat line (record { only = only; stands = stands }) now.good now.held in
        record { good = kept.0; held = kept.1; fresh = λ run own fresh. fresh_shrinks old old.disk.beat new beat images (same_puts puts beat from) run (now.fresh run own fresh) })

    -- a line was said that is of no record of this run
    pub since_other_line : (bytes : List ℕ) → KeepsDisk old.disk new.disk → new.link.puts ≡ old.link.puts → Gains old.link.said (new.disk.beat, bytes) new.link.said
        → AnyJournal old old.disk.beat (λ records. IsRunLine speech (run_of records) bytes → ⊥) → AgreedSince speech start new
    since_other_line line keeps puts gained other = extend keeps.goes_on
        (record {
          puts = λ beat lt. ap (λ (l : Option (List (ℕ × Parcel))). up_to beat (told_list l)) puts;
          said = λ beat lt. gained_before beat new.disk.beat old.link.said new.link.said line gained (omega (arith, lt, keeps.goes_on.later));
        })
        (λ beat from to.
        let images : (file : ℕ) → file ≤ 16 → Among file old old.disk.beat new beat = λ file le image left. keeps_stay keeps file le beat image from to left in
        let only : OnlyChanges speech None None None old old.disk.beat new beat = record {
          past = keeps.goes_on.past 0;
          images = λ file le elsewhere. images file le;
          puts = same_puts puts beat from;
          lines = λ image records left are bytes is_line said. elim (line_cases line keeps.goes_on.later gained beat from to bytes said) [
            | inl is ↦ absurd (other image records (images 0 (omega arith) image left) are (subst (λ (l : List ℕ). IsRunLine speech (run_of records) l) is is_line))
            | inr was ↦ inr was
          ];
        } in
        let kept = images_shrink speech (puts_of start) old old.disk.beat new beat only now.good now.held in
        record { good = kept.0; held = kept.1; fresh = λ run own fresh. fresh_shrinks old old.disk.beat new beat images (same_puts puts beat from) run (now.fresh run own fresh) })

    -- a filter's file gained an act on a command that was put, or may have: no journal need have begun
    pub since_act_put : (agent : ℕ) (acts : List Act) (act : Act) → IsAgent agent → OnlyFile agent old new (λ image. IsActs image acts ⊎ IsActs image (acts ++ act ∷ []))
        → HasImage old agent old.disk.beat → ((image : List ℕ) → IsLeft old.disk agent old.disk.beat image → IsActs image acts) → IsFurtherAct old old.disk.beat agent acts act
        → (at : ℕ) (parcel : Parcel) → Contains (puts_to old old.disk.beat) (at, parcel) → act.run ≡ parcel.run → AgreedSince speech start new
    since_act_put agent acts act is only some before further at parcel put of = extend only.each.goes_on (same_link (ap (λ l. l.puts) only.rest.link) (ap (λ l. l.said) only.rest.link)) (λ beat from to.
        let not_zero : 0 ≢ agent = λ e. absurd (omega (arith, e, is.0)) in
        let kept = act_is_gained speech (puts_of start) old old.disk.beat new beat agent acts act (record {
          is_agent = is;
          only = only_file agent _ only beat from to;
          some = some;
          before = before;
          now = λ image left. only.each.each so_far.told beat image from to left;
          further = further;
        }) now.good now.held in
        record {
          good = kept.0;
          held = kept.1;
          fresh = λ run own fresh. record {
            unused = λ image left empty.
                let was = (now.fresh run own fresh).unused image (other_stays agent 0 _ only not_zero beat from to image left) empty in
                record {
                  acts = λ a file those x is_one there are has. elim (cases_eq a agent) [
                    | inl e ↦ by_agent run was file those x are has
                        (only.each.each so_far.told beat file from to (subst (λ (n : ℕ). IsLeft new.disk n beat file) e there))
                    | inr ne ↦ was.acts a file those x is_one (other_stays agent a _ only ne beat from to file there) are has
                  ];
                  puts = λ one it has. was.puts one it (subst (λ (l : List (ℕ × Parcel)). Contains l (one, it)) (same_puts (ap (λ l. l.puts) only.rest.link) beat from) has);
                };
          };
        })
      where
        of_old : (run : ℕ) → IsUnused old run old.disk.beat → (x : Act) → Contains acts x → x.run ≢ run
        of_old run was x has = was.acts agent some.image acts x is some.left (before some.image some.left) has

        by_agent : (run : ℕ) → IsUnused old run old.disk.beat → (file : List ℕ) (those : List Act) (x : Act) → IsActs file those → Contains those x
            → IsActs file acts ⊎ IsActs file (acts ++ act ∷ []) → x.run ≢ run
        by_agent run was file those x are has (inl as_before) = of_old run was x (subst (λ (l : List Act). Contains l x) (same_acts file those acts are as_before) has)
        by_agent run was file those x are has (inr as_now) = elim (Contains-push_cases acts act x (subst (λ (l : List Act). Contains l x) (same_acts file those (acts ++ act ∷ []) are as_now) has)) [
          | inl old_one ↦ of_old run was x old_one
          | inr same ↦ λ e. was.puts at parcel put (sym of ∙ (ap (λ (y : Act). y.run) same ∙ e))
        ]

    -- a reply was put, or lost: no journal need have begun
    pub since_reply_put : (parcel : Parcel) (puts : Puts parcel old new) → parcel.back ≡ true → IsAgent parcel.agent
        → EachFilter old old.disk.beat parcel.agent (λ acts. HasReply acts parcel.run parcel.issue (IsBytes parcel.bytes)) → HasImage old parcel.agent old.disk.beat → AgreedSince speech start new
    since_reply_put parcel puts reply is acted some = extend puts.disk.disk.goes_on (put_link parcel puts) (λ beat from to. elim (put_cases parcel puts beat from to) [
      | inl same ↦ put_quiet parcel puts beat from to same
      | inr more ↦
          let kept = reply_is_put speech (puts_of start) old old.disk.beat new beat parcel (record { only = put_only parcel puts beat from to more; back = reply; is_agent = is; acted = acted }) now.good now.held in
          record {
            good = kept.0;
            held = kept.1;
            fresh = λ run own fresh. record {
              unused = λ image left empty.
                  let was = (now.fresh run own fresh).unused image (put_images parcel puts beat from to 0 (omega arith) image left) empty in
                  let there = acted some.image some.left in
                  record {
                    acts = λ a file those x is_one left_there are has. was.acts a file those x is_one (put_images parcel puts beat from to a is_one.1 file left_there) are has;
                    puts = λ one it has. elim (Contains-push_cases (puts_to old old.disk.beat) (beat, parcel) (one, it) (subst (λ (l : List (ℕ × Parcel)). Contains l (one, it)) more has)) [
                      | inl before ↦ was.puts one it before
                      | inr e ↦ λ f. was.acts parcel.agent some.image there.acts there.so.act is some.left there.are there.so.has
                          (there.so.of_run ∙ (ap (λ (p : Parcel). p.run) (same_entry e) ∙ f))
                    ];
                  };
            };
          }
    ])
