-- What the law on records asks is needed, where there is a Begin that alone is a run: beats at which all holds but one premise,
-- and agreement ends.
use Rattle.std.proofs.Common.{◌≡◌, ◌≢◌, ◌⊎◌, inl, inr, ℕ, zero, suc, ◌≤◌, ◌<◌, ◌^◌, Bool, true, false, List, [], ◌∷◌, refl, sym, ◌∙◌, subst, ap, arith}
use Rattle.std.specs.Prelude.{Contains, Option, Some, None, bytes_eq, slice_get}
use Rattle.std.proofs.lemmas.Bool.{both_ways}
use Rattle.std.proofs.lemmas.Slice.Eq.{bytes_eq-Decides}
use Rattle.std.proofs.lemmas.List.Elements.{Contains-push_cases}
use Rattle.cacao_site.specs.DiskCalls.{IsLeft}
use Rattle.cacao_site.specs.View.{SiteView}
use Rattle.cacao_site.specs.declared.parcel.Parcel.{Parcel}
use Rattle.run_records.specs.declared.record.Record.{Record}
use Rattle.run_records.specs.declared.record.Record.TheVariants.{Begin, Reply}
use Rattle.run_records.specs.declared.act.Act.{Act}
use Rattle.flow_core_rules.specs.State.{Shown, shown}
use Rattle.flow_core_rules.specs.Lines.{record_line}
use Rattle.flow_core_rules.proofs.LineLemmas.{records_have_lines, lines_fix_records}
use Rattle.slpf_rules_acts.proofs.Acts.{none_are_acts}
use Rattle.flow_laws.specs.Journals.{IsJournalRun, run_of}
use Rattle.flow_laws.specs.Images.{up_to, puts_to, IsAgent, IsActs, IsRecords, HasImage, WasSaid}
use Rattle.flow_laws.specs.Good.{IsGood}
use Rattle.flow_laws.specs.Held.{Speech, IsHeldAs, IsRunLine, IsLineOf, plain}
use Rattle.flow_laws.specs.Beats.{OnlyChanges, IsFurther}
use Rattle.flow_laws.proofs.Basics.{not_begun, same_some}
use Rattle.flow_laws.proofs.OneList.{empty_records, empty_acts, none_of_empty, same_acts, same_records}
use Rattle.flow_laws.proofs.Calls.{entry_now}
use Rattle.flow_laws.proofs.Needed.{site_of, is_short, is_empty, blank_left, is_start, zeros, no_list, in_one, no_act_in}
use Rattle.flow_laws.proofs.Quiet.{Breaks, held_quiet, only_entry, none_in}

never : false ≡ true → ⊥
never e = cc

no_reply : (run moment : ℕ) (books : List (List ℕ)) (bind : List ℕ) (issue at status rule : ℕ) (text : List ℕ)
    → Begin run moment books bind ≡ Reply issue at status rule text → ⊥
no_reply run moment books bind issue at status rule text e = cc

unsaid : (left : ℕ → ℕ → List ℕ → Bool) (puts : List (ℕ × Parcel)) (beat : ℕ) (bytes : List ℕ) → WasSaid (site_of left puts []) beat bytes → ⊥
unsaid left puts beat bytes said = none_in (said.at, bytes) said.has

-- a short image of a filter's file has no act
no_act : (image : List ℕ) (acts : List Act) (act : Act) → is_short image ≡ true → IsActs image acts → Contains acts act → ⊥
no_act image acts act short are has = no_act_in acts act (same_acts image acts [] are (empty_acts image (is_empty image short))) has

-- the journal has no image at beat 0
abbrev pub lacks_journal : ℕ → ℕ → List ℕ → Bool
lacks_journal zero zero image = false
lacks_journal zero (suc beat) image = is_short image
lacks_journal (suc file) beat image = is_short image

-- it has every image from beat 1 on
abbrev pub any_journal : ℕ → ℕ → List ℕ → Bool
any_journal zero zero image = is_short image
any_journal zero (suc beat) image = true
any_journal (suc file) beat image = is_short image

-- it has this image at beat 0
abbrev pub one_first : List ℕ → ℕ → ℕ → List ℕ → Bool
one_first one zero zero image = bytes_eq image one
one_first one zero (suc beat) image = is_short image
one_first one (suc file) beat image = is_short image

-- it has this image from beat 1 on
abbrev pub one_later : List ℕ → ℕ → ℕ → List ℕ → Bool
one_later one zero zero image = is_short image
one_later one zero (suc beat) image = bytes_eq image one
one_later one (suc file) beat image = is_short image

-- before the Begin a 1 stands before a line, and behind it a 2
abbrev pub turned_head : Option ℕ → List ℕ
turned_head None = 1 ∷ []
turned_head (Some run) = 2 ∷ []

abbrev pub turns : Speech
turns = record { head = turned_head; is_own = λ run. true }

module _ (run moment : ℕ) (books : List (List ℕ)) (bind : List ℕ) (alone : IsJournalRun (Begin run moment books bind ∷ [])) where
  abbrev begin : Record
  begin = Begin run moment books bind

  -- it may be the first record where no act is there and no parcel has its number
  may_begin : (speech : Speech) (left : ℕ → ℕ → List ℕ → Bool) (puts : List (ℕ × Parcel)) (said : List (ℕ × List ℕ))
      → ((file : ℕ) (image : List ℕ) → left (suc file) 0 image ≡ is_short image)
      → ((at : ℕ) (parcel : Parcel) → Contains (puts_to (site_of left puts said) 0) (at, parcel) → parcel.run ≢ run)
      → speech.head (Some run) ≡ speech.head None → IsFurther speech (site_of left puts said) 0 [] begin
  may_begin speech left puts said short other speaks = record {
    first = λ e. record {
      run = run;
      moment = moment;
      books = books;
      bind = bind;
      is = refl;
      alone = alone;
      unused = record { acts = unused_acts; puts = other };
      speaks = speaks;
    };
    step = λ ne. absurd (ne refl);
    backed = λ r issue at status rule text of. absurd (not_begun r of);
  }
    where
      unused_acts : (agent : ℕ) (image : List ℕ) (acts : List Act) (act : Act) → IsAgent agent → left agent 0 image ≡ true → IsActs image acts → Contains acts act → act.run ≢ run
      unused_acts zero image acts act is there are has = absurd (omega (arith, is.0))
      unused_acts (suc agent) image acts act is there are has = absurd (no_act image acts act (sym (short agent image) ∙ there) are has)

  -- ---- the journal has an image

  abbrev stray : Parcel
  stray = record { agent = 1; back = true; run = suc run; issue = 0; bytes = [] }

  abbrev no_image : SiteView
  no_image = site_of lacks_journal ((0, stray) ∷ []) []

  other_run : suc run ≢ run
  other_run e = omega (arith, e)

  stray_put : (beat at : ℕ) (parcel : Parcel) → Contains (puts_to no_image beat) (at, parcel) → stray ≡ parcel
  stray_put beat at parcel has = ap (λ (e : ℕ × Parcel). e.1) (only_entry beat 0 stray (at, parcel) (omega arith) has)

  lacks_elsewhere : (file : ℕ) (image : List ℕ) → file ≢ 0 → lacks_journal file 1 image ≡ true → lacks_journal file 0 image ≡ true
  lacks_elsewhere zero image ne left = absurd (ne refl)
  lacks_elsewhere (suc file) image ne left = left

  short_later : (file : ℕ) → lacks_journal file 1 [] ≡ true
  short_later zero = blank_left
  short_later (suc file) = blank_left

  pub record_without_an_image :
      OnlyChanges plain (Some 0) None None no_image 0 no_image 1
      × ((image : List ℕ) → IsLeft no_image.disk 0 0 image → IsRecords image [])
      × ((image : List ℕ) → IsLeft no_image.disk 0 1 image → IsRecords image [] ⊎ IsRecords image (begin ∷ []))
      × IsFurther plain no_image 0 [] begin
      × Breaks no_image 0 no_image 1 1
  record_without_an_image = (
    record {
      past = λ at image le. refl;
      images = λ file le other image left. lacks_elsewhere file image other left;
      puts = entry_now {T = Parcel} 1 0 [] stray (omega arith) ∙ sym (entry_now {T = Parcel} 0 0 [] stray (omega arith));
      lines = λ image records left are bytes line said. absurd (unsaid lacks_journal ((0, stray) ∷ []) 1 bytes said);
    },
    λ image left. absurd (never left),
    λ image left. inl (empty_records image (is_empty image left)),
    may_begin plain lacks_journal ((0, stray) ∷ []) [] (λ file image. refl)
        (λ at parcel has. subst (λ (p : Parcel). p.run ≢ run) (stray_put 0 at parcel has) other_run) refl,
    record {
      good = record { each = λ choice each. absurd (never (each 0 (omega arith))) };
      held = held_quiet no_image 1 0 (unsaid lacks_journal ((0, stray) ∷ []) 0)
          (λ at parcel has command. both_ways parcel.back command (subst (λ (p : Parcel). p.back ≡ true) (stray_put 0 at parcel has) refl));
      ends = λ good held.
          let on = good.each (λ file. []) (λ file le. short_later file) in
          let there : Contains (puts_to no_image 1) (0, stray) =
          subst (λ (l : List (ℕ × Parcel)). Contains l (0, stray)) (sym (entry_now {T = Parcel} 1 0 [] stray (omega arith))) (0, omega arith, refl) in
          let of_act = on.agree.replies 0 stray there refl in
          no_act [] (on.acts 1) of_act.reply.act blank_left (on.are_acts 1 (omega arith, omega arith)) of_act.reply.has;
    },
  )

  -- ---- the journal gains the record and nothing else

  abbrev any_record : SiteView
  any_record = site_of any_journal [] []

  any_elsewhere : (file : ℕ) (image : List ℕ) → file ≢ 0 → any_journal file 1 image ≡ true → any_journal file 0 image ≡ true
  any_elsewhere zero image ne left = absurd (ne refl)
  any_elsewhere (suc file) image ne left = left

  first_short : (file : ℕ) (image : List ℕ) → any_journal file 0 image ≡ is_short image
  first_short zero image = refl
  first_short (suc file) image = refl

  abbrev zeros_in_zero : ℕ → List ℕ
  zeros_in_zero zero = zeros
  zeros_in_zero (suc file) = []

  zeros_left : (file : ℕ) → any_journal file 1 (zeros_in_zero file) ≡ true
  zeros_left zero = refl
  zeros_left (suc file) = blank_left

  pub record_to_any_image :
      OnlyChanges plain (Some 0) None None any_record 0 any_record 1
      × HasImage any_record 0 0
      × ((image : List ℕ) → IsLeft any_record.disk 0 0 image → IsRecords image [])
      × IsFurther plain any_record 0 [] begin
      × Breaks any_record 0 any_record 1 0
  record_to_any_image = (
    record {
      past = λ at image le. refl;
      images = λ file le other image left. any_elsewhere file image other left;
      puts = refl;
      lines = λ image records left are bytes line said. absurd (unsaid any_journal [] 1 bytes said);
    },
    record { image = []; left = blank_left },
    λ image left. empty_records image (is_empty image left),
    may_begin plain any_journal [] [] (λ file image. refl) (λ at parcel has. absurd (none_in (at, parcel) has)) refl,
    record {
      good = record { each = λ choice each. is_start.good.each choice (λ file le. sym (first_short file (choice file)) ∙ each file le) };
      held = held_quiet any_record 0 0 (unsaid any_journal [] 0) (λ at parcel has command. none_in (at, parcel) has);
      ends = λ good held.
          let on = good.each zeros_in_zero (λ file le. zeros_left file) in
          no_list on.are_records.entries on.are_records.stands;
    },
  )

  -- ---- what the journal held before

  module _ (one : List ℕ) (stands : IsRecords one (begin ∷ [])) (in_time : moment < 2 ^ 64) where
    -- the line of the record, and that of a sixth
    abbrev its_line : List ℕ
    its_line = record_line (shown alone.state) 0 begin

    abbrev sixth_line : List ℕ
    sixth_line = record_line (shown alone.state) 5 begin

    abbrev other_journal : SiteView
    other_journal = site_of (one_first one) [] ((0, its_line) ∷ [])

    first_elsewhere : (file : ℕ) (image : List ℕ) → file ≢ 0 → one_first one file 1 image ≡ true → one_first one file 0 image ≡ true
    first_elsewhere zero image ne left = absurd (ne refl)
    first_elsewhere (suc file) image ne left = left

    is_one : (image : List ℕ) → bytes_eq image one ≡ true → image ≡ one
    is_one image same = (bytes_eq-Decides image one).0 same

    -- its records are the Begin
    the_begin : (image : List ℕ) (records : List Record) → bytes_eq image one ≡ true → IsRecords image records → records ≡ begin ∷ []
    the_begin image records left are = same_records one records (begin ∷ []) (subst (λ (i : List ℕ). IsRecords i records) (is_one image left) are) stands

    -- the one line that was said is a line of it
    said_once : (beat : ℕ) (bytes : List ℕ) → WasSaid other_journal beat bytes → its_line ≡ bytes
    said_once beat bytes said = ap (λ (e : ℕ × List ℕ). e.1) (only_entry beat 0 its_line (said.at, bytes) (omega arith) said.has)

    held_before : IsHeldAs plain other_journal 0 0
    held_before = record {
      lines = λ image records left are bytes said line. subst (λ (l : List Record). IsLineOf plain l bytes) (sym (the_begin image records left are)) (record {
        n = 0;
        it = begin;
        before = shown alone.state;
        stands = refl;
        shows = tt;
        is = sym (said_once 0 bytes said);
      });
      sent = λ image records left are at parcel has command of. absurd (none_in (at, parcel) has);
      none_while_empty = λ image left empty at parcel own. none_in (at, parcel) own.has;
      was_open = λ at parcel own. absurd (none_in (at, parcel) own.has);
    }

    good_before : IsGood other_journal 0
    good_before = record {
      each = λ choice each. record {
        records = begin ∷ [];
        acts = λ agent. [];
        are_records = subst (λ (i : List ℕ). IsRecords i (begin ∷ [])) (sym (is_one (choice 0) (each 0 (omega arith)))) stands;
        are_acts = λ agent is. empty_acts (choice agent) (is_empty (choice agent) (agents_short agent (choice agent) is.0 (each agent is.1)));
        agree = record {
          is_run = alone;
          acts_once = λ agent is. none_are_acts;
          replies = λ at parcel has back. absurd (none_in (at, parcel) has);
          commands = λ at parcel has command of. absurd (none_in (at, parcel) has);
          acts_sent = λ agent act is has of. absurd (none_in act has);
          answers = λ r issue at status rule text of has. absurd (only_begin r issue at status rule text has);
        };
      };
    }
      where
        agents_short : (file : ℕ) (image : List ℕ) → 1 ≤ file → one_first one file 0 image ≡ true → is_short image ≡ true
        agents_short zero image some left = absurd (omega (arith, some))
        agents_short (suc file) image some left = left

        only_begin : (r issue at status rule : ℕ) (text : List ℕ) → Contains (begin ∷ []) (Reply issue at status rule text) → ⊥
        only_begin r issue at status rule text has = elim (Contains-push_cases [] begin (Reply issue at status rule text) has) [
          | inl none ↦ none_in _ none
          | inr is ↦ no_reply run moment books bind issue at status rule text is
        ]

    no_record : (n : ℕ) (it : Record) → slice_get [] n ≡ Some it → ⊥
    no_record n it is = cc

    pub record_to_another_journal :
        OnlyChanges plain (Some 0) None None other_journal 0 other_journal 1
        × HasImage other_journal 0 0
        × ((image : List ℕ) → IsLeft other_journal.disk 0 1 image → IsRecords image [] ⊎ IsRecords image (begin ∷ []))
        × IsFurther plain other_journal 0 [] begin
        × Breaks other_journal 0 other_journal 1 0
    record_to_another_journal = (
      record {
        past = λ at image le. refl;
        images = λ file le other image left. first_elsewhere file image other left;
        puts = refl;
        lines = λ image records left are bytes line said. inr (record {
          at = 0;
          has = in_one its_line (0, bytes) (ap (λ (l : List ℕ). (0, l)) (sym (said_once 1 bytes said)));
        });
      },
      record { image = one; left = (bytes_eq-Decides one one).1 refl },
      λ image left. inl (empty_records image (is_empty image left)),
      may_begin plain (one_first one) [] ((0, its_line) ∷ []) (λ file image. refl) (λ at parcel has. absurd (none_in (at, parcel) has)) refl,
      record {
        good = good_before;
        held = held_before;
        ends = λ good held.
            let said : WasSaid other_journal 1 its_line = record { at = 0; has = said_now } in
            let looks : IsRunLine plain None its_line = record { line = its_line; looks = records_have_lines (shown alone.state) 0 begin (omega arith) in_time; is = refl } in
            let of = held.lines [] [] blank_left (empty_records [] (is_empty [] blank_left)) its_line said looks in
            no_record of.n of.it of.stands;
      },
    )
      where
        said_now : Contains (up_to 1 ((0, its_line) ∷ [])) (0, its_line)
        said_now = subst (λ (l : List (ℕ × List ℕ)). Contains l (0, its_line)) (sym (entry_now {T = List ℕ} 1 0 [] its_line (omega arith))) (0, omega arith, refl)

    -- ---- what stands before a line goes on with the number of the run

    abbrev turned : SiteView
    turned = site_of (one_later one) [] ((0, 2 ∷ sixth_line) ∷ [])

    turned_elsewhere : (file : ℕ) (image : List ℕ) → file ≢ 0 → one_later one file 1 image ≡ true → one_later one file 0 image ≡ true
    turned_elsewhere zero image ne left = absurd (ne refl)
    turned_elsewhere (suc file) image ne left = left

    turned_short : (file : ℕ) (image : List ℕ) → one_later one file 0 image ≡ is_short image
    turned_short zero image = refl
    turned_short (suc file) image = refl

    said_turned : (beat : ℕ) (bytes : List ℕ) → WasSaid turned beat bytes → ◌≡◌ {A = List ℕ} (2 ∷ sixth_line) bytes
    said_turned beat bytes said = ap (λ (e : ℕ × List ℕ). e.1) (only_entry beat 0 (2 ∷ sixth_line) (said.at, bytes) (omega arith) said.has)

    not_turned : (bytes line : List ℕ) → ◌≡◌ {A = List ℕ} (2 ∷ sixth_line) bytes → bytes ≡ 1 ∷ line → ⊥
    not_turned bytes line said is = cc

    held_turned : IsHeldAs turns turned 0 0
    held_turned = record {
      lines = λ image records left are bytes said line.
          let none : records ≡ [] = none_of_empty image records (is_empty image left) are in
          let first : IsRunLine turns None bytes = subst (λ (l : List Record). IsRunLine turns (run_of l) bytes) none line in
          absurd (not_turned bytes first.line (said_turned 0 bytes said) first.is);
      sent = λ image records left are at parcel has command of. absurd (none_in (at, parcel) has);
      none_while_empty = λ image left empty at parcel own. none_in (at, parcel) own.has;
      was_open = λ at parcel own. absurd (none_in (at, parcel) own.has);
    }

    same_behind : (a b : List ℕ) → ◌≡◌ {A = List ℕ} (2 ∷ a) (2 ∷ b) → a ≡ b
    same_behind a b e = cc

    not_sixth : (n : ℕ) (it : Record) (before : Shown) → slice_get (begin ∷ []) n ≡ Some it → sixth_line ≡ record_line before n it → ⊥
    not_sixth zero it before stands same =
        let of : sixth_line ≡ record_line before 0 begin = subst (λ (r : Record). sixth_line ≡ record_line before 0 r) (sym (same_some stands)) same in
        absurd (omega (arith, (lines_fix_records (shown alone.state) before 5 0 begin begin (omega arith) (omega arith) in_time in_time of).0))
    not_sixth (suc n) it before stands same = absurd (no_record n it stands)

    pub record_of_another_speech :
        OnlyChanges turns (Some 0) None None turned 0 turned 1
        × HasImage turned 0 0
        × ((image : List ℕ) → IsLeft turned.disk 0 0 image → IsRecords image [])
        × ((image : List ℕ) → IsLeft turned.disk 0 1 image → IsRecords image [] ⊎ IsRecords image (begin ∷ []))
        × IsFurther plain turned 0 [] begin
        × IsGood turned 0
        × IsHeldAs turns turned 0 0
        × (IsHeldAs turns turned 0 1 → ⊥)
    record_of_another_speech = (
      record {
        past = λ at image le. refl;
        images = λ file le other image left. turned_elsewhere file image other left;
        puts = refl;
        lines = λ image records left are bytes line said. inr (record {
          at = 0;
          has = in_one (2 ∷ sixth_line) (0, bytes) (ap (λ (l : List ℕ). (0, l)) (sym (said_turned 1 bytes said)));
        });
      },
      record { image = []; left = blank_left },
      λ image left. empty_records image (is_empty image left),
      λ image left. inr (subst (λ (i : List ℕ). IsRecords i (begin ∷ [])) (sym (is_one image left)) stands),
      may_begin plain (one_later one) [] ((0, 2 ∷ sixth_line) ∷ []) (λ file image. refl) (λ at parcel has. absurd (none_in (at, parcel) has)) refl,
      record { each = λ choice each. is_start.good.each choice (λ file le. sym (turned_short file (choice file)) ∙ each file le) },
      held_turned,
      λ held.
          let said : WasSaid turned 1 (2 ∷ sixth_line) = record { at = 0; has = turned_now } in
          let looks : IsRunLine turns (Some run) (2 ∷ sixth_line) = record { line = sixth_line; looks = records_have_lines (shown alone.state) 5 begin (omega arith) in_time; is = refl } in
          let of = held.lines one (begin ∷ []) ((bytes_eq-Decides one one).1 refl) stands (2 ∷ sixth_line) said looks in
          not_sixth of.n of.it of.before of.stands (same_behind sixth_line (record_line of.before of.n of.it) of.is),
    )
      where
        turned_now : Contains (up_to 1 ((0, 2 ∷ sixth_line) ∷ [])) (0, 2 ∷ sixth_line)
        turned_now = subst (λ (l : List (ℕ × List ℕ)). Contains l (0, 2 ∷ sixth_line)) (sym (entry_now {T = List ℕ} 1 0 [] (2 ∷ sixth_line) (omega arith))) (0, omega arith, refl)
