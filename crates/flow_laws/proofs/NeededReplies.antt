-- What the laws on acts and replies ask is needed, where an image stands for an act whose reply is that of the first table: beats
-- at which all holds but one premise, and agreement ends.
use Rattle.std.proofs.Common.{◌≡◌, ◌≢◌, ◌⊎◌, inl, inr, ℕ, zero, suc, Bool, cond, eqb, true, false, List, [], ◌∷◌, refl, sym, ◌∙◌, subst, ap, arith}
use Rattle.std.specs.Prelude.{Contains, Option, Some, None, bytes_eq}
use Rattle.std.proofs.lemmas.Bool.{both_ways, eqb-true}
use Rattle.std.proofs.lemmas.Slice.Eq.{bytes_eq-Decides}
use Rattle.std.proofs.lemmas.List.Elements.{Contains-push_cases}
use Rattle.cacao_site.specs.DiskCalls.{IsLeft}
use Rattle.cacao_site.specs.View.{SiteView}
use Rattle.cacao_site.specs.declared.parcel.Parcel.{Parcel}
use Rattle.run_journal.proofs.LayoutLaws.{one_list}
use Rattle.run_records.specs.Fields.{◌>>=◌}
use Rattle.run_records.specs.Lists.{records as records_in, acts as acts_in}
use Rattle.run_records.specs.Reading.{record_of, act_of, act_at}
use Rattle.run_records.specs.declared.record.Record.{Record}
use Rattle.run_records.specs.declared.record.Record.TheVariants.{Begin, Send}
use Rattle.run_records.specs.declared.act.Act.{Act}
use Rattle.slpf_rules_acts.specs.Acts.{AreActs, IsReplied}
use Rattle.slpf_rules_acts.proofs.Acts.{none_are_acts, acts_more}
use Rattle.flow_laws.specs.Acts.{HasReply, IsBytes}
use Rattle.flow_laws.specs.Journals.{IsJournalRun, IsSent, run_of}
use Rattle.flow_laws.specs.Images.{AnyJournal, puts_to, IsAgent, IsActs, IsRecords, HasImage, EachFilter, WasSaid}
use Rattle.flow_laws.specs.Agree.{IsOfAnAct}
use Rattle.flow_laws.specs.Good.{IsGood}
use Rattle.flow_laws.specs.Held.{plain}
use Rattle.flow_laws.specs.Beats.{OnlyChanges, IsFurtherAct}
use Rattle.flow_laws.proofs.Basics.{not_begun}
use Rattle.flow_laws.proofs.OneList.{empty_records, empty_acts, same_acts, same_records}
use Rattle.flow_laws.proofs.Calls.{entry_now}
use Rattle.flow_laws.proofs.Needed.{site_of, is_short, is_empty, blank_left, is_start, no_act_in}
use Rattle.flow_laws.proofs.Quiet.{Breaks, held_quiet, only_entry, none_in, of_no_run}
use Rattle.flow_laws.proofs.NeededRecords.{one_later}

-- ---- entries of acts are not entries of records

passed : {A : Type 0} (test : Bool) (x : Option A) (y : A) → cond test x None ≡ Some y → test ≡ true
passed true x y e = refl
passed false x y e = absurd (cc)

no_record : (entry : List ℕ) (act : Act) → act_of entry ≡ Some act → record_of entry ≡ None
unfolding act_of record_of
no_record [] act is = refl
no_record (tag ∷ bytes) act is =
    subst (λ (n : ℕ). record_of (n ∷ bytes) ≡ None) (sym (eqb-true tag 16 (passed (eqb tag 16) (act_at bytes) act is))) refl

first_read : (first : Option Act) (others : Option (List Act)) (act : Act) (acts : List Act)
    → (first >>= (λ a. others >>= (λ rest. Some (a ∷ rest)))) ≡ Some (act ∷ acts) → (it : Act) × (first ≡ Some it)
first_read None others act acts e = absurd (cc)
first_read (Some a) others act acts e = (a, refl)

none_then : (first : Option Record) (others : Option (List Record)) (records : List Record) → first ≡ None
    → (first >>= (λ r. others >>= (λ rest. Some (r ∷ rest)))) ≡ Some records → ⊥
none_then None others records none e = cc
none_then (Some r) others records none e = cc

not_both : (entries : List (List ℕ)) (act : Act) (acts : List Act) (records : List Record) → acts_in entries ≡ Some (act ∷ acts)
    → records_in entries ≡ Some records → ⊥
not_both [] act acts records are_acts are_records = cc
not_both (entry ∷ entries) act acts records are_acts are_records =
    let it = first_read (act_of entry) (acts_in entries) act acts are_acts in
    none_then (record_of entry) (records_in entries) records (no_record entry it.0 it.1) are_records

pub acts_are_no_records : (image : List ℕ) (act : Act) (acts : List Act) (records : List Record) → IsActs image (act ∷ acts) → IsRecords image records → ⊥
acts_are_no_records image act acts records are is =
    not_both are.entries act acts records are.reads
    (subst (λ (l : List (List ℕ)). records_in l ≡ Some records) (one_list image is.entries are.entries is.stands are.stands) is.reads)

unsaid : (left : ℕ → ℕ → List ℕ → Bool) (puts : List (ℕ × Parcel)) (beat : ℕ) (bytes : List ℕ) → WasSaid (site_of left puts []) beat bytes → ⊥
unsaid left puts beat bytes said = none_in (said.at, bytes) said.has

-- the file of agent 1 has this image alone at beat 0
abbrev pub act_first : List ℕ → ℕ → ℕ → List ℕ → Bool
act_first one zero beat image = is_short image
act_first one (suc zero) zero image = bytes_eq image one
act_first one (suc zero) (suc beat) image = is_short image
act_first one (suc (suc file)) beat image = is_short image

-- at each beat
abbrev pub act_always : List ℕ → ℕ → ℕ → List ℕ → Bool
act_always one zero beat image = is_short image
act_always one (suc zero) beat image = bytes_eq image one
act_always one (suc (suc file)) beat image = is_short image

abbrev pub in_one : List ℕ → ℕ → List ℕ
in_one one zero = []
in_one one (suc zero) = one
in_one one (suc (suc file)) = []

-- ---- the reply of an act is that of the table

-- the file of agent 1 has this image alone from beat 1 on
abbrev pub act_later : List ℕ → ℕ → ℕ → List ℕ → Bool
act_later one zero beat image = is_short image
act_later one (suc zero) zero image = is_short image
act_later one (suc zero) (suc beat) image = bytes_eq image one
act_later one (suc (suc file)) beat image = is_short image

module _ (one : List ℕ) (act : Act) (stands : IsActs one (act ∷ [])) (wrong : IsReplied [] act → ⊥) where
  abbrev wrongly : SiteView
  wrongly = site_of (act_later one) [] []

  wrongly_elsewhere : (file : ℕ) (image : List ℕ) → file ≢ 1 → act_later one file 1 image ≡ true → act_later one file 0 image ≡ true
  wrongly_elsewhere zero image ne left = left
  wrongly_elsewhere (suc zero) image ne left = absurd (ne refl)
  wrongly_elsewhere (suc (suc file)) image ne left = left

  wrongly_short : (file : ℕ) (image : List ℕ) → act_later one file 0 image ≡ is_short image
  wrongly_short zero image = refl
  wrongly_short (suc zero) image = refl
  wrongly_short (suc (suc file)) image = refl

  one_left : (file : ℕ) → act_later one file 1 (in_one one file) ≡ true
  one_left zero = blank_left
  one_left (suc zero) = (bytes_eq-Decides one one).1 refl
  one_left (suc (suc file)) = blank_left

  pub act_with_another_reply :
      OnlyChanges plain (Some 1) None None wrongly 0 wrongly 1
      × HasImage wrongly 1 0
      × ((image : List ℕ) → IsLeft wrongly.disk 1 0 image → IsActs image [])
      × ((image : List ℕ) → IsLeft wrongly.disk 1 1 image → IsActs image [] ⊎ IsActs image (act ∷ []))
      × AnyJournal wrongly 0 (λ records. run_of records ≡ Some act.run → IsSent records act.issue 1 act.command)
      × Breaks wrongly 0 wrongly 1 0
  act_with_another_reply = (
    record {
      past = λ at image le. refl;
      images = λ file le other image left. wrongly_elsewhere file image other left;
      puts = refl;
      lines = λ image records left are bytes line said. absurd (unsaid (act_later one) [] 1 bytes said);
    },
    record { image = []; left = blank_left },
    λ image left. empty_acts image (is_empty image left),
    λ image left. inr (subst (λ (i : List ℕ). IsActs i (act ∷ [])) (sym ((bytes_eq-Decides image one).0 left)) stands),
    λ image records left are of. absurd (of_no_run image records act.run left are of),
    record {
      good = record { each = λ choice each. is_start.good.each choice (λ file le. sym (wrongly_short file (choice file)) ∙ each file le) };
      held = held_quiet wrongly 0 0 (unsaid (act_later one) [] 0) (λ at parcel has command. none_in (at, parcel) has);
      ends = λ good held.
          let on = good.each (in_one one) (λ file le. one_left file) in
          let all : on.acts 1 ≡ act ∷ [] = same_acts one (on.acts 1) (act ∷ []) (on.are_acts 1 (omega arith, omega arith)) stands in
          let are : AreActs (act ∷ []) = subst AreActs all (on.agree.acts_once 1 (omega arith, omega arith)) in
          wrong (are.replied 0 act refl);
    },
  )

-- ---- an act, and nothing but it

module _ (one : List ℕ) (act : Act) (stands : IsActs one (act ∷ [])) (replied : IsReplied [] act) where
  itself : bytes_eq one one ≡ true
  itself = (bytes_eq-Decides one one).1 refl

  is_one : (image : List ℕ) → bytes_eq image one ≡ true → image ≡ one
  is_one image same = (bytes_eq-Decides image one).0 same

  follows_none : (left : ℕ → ℕ → List ℕ → Bool) (puts : List (ℕ × Parcel)) (agent : ℕ) → ((image : List ℕ) → left 0 0 image ≡ is_short image)
      → IsFurtherAct (site_of left puts []) 0 agent [] act
  follows_none left puts agent short = record {
    other = λ k d lt. absurd (omega (arith, lt));
    replied = replied;
    sent = λ image records there are of. absurd (of_no_run image records act.run (sym (short image) ∙ there) are of);
  }

  -- ---- the file that gains an act is an agent's

  abbrev in_journal : SiteView
  in_journal = site_of (one_later one) [] []

  journal_elsewhere : (file : ℕ) (image : List ℕ) → file ≢ 0 → one_later one file 1 image ≡ true → one_later one file 0 image ≡ true
  journal_elsewhere zero image ne left = absurd (ne refl)
  journal_elsewhere (suc file) image ne left = left

  journal_short : (file : ℕ) (image : List ℕ) → one_later one file 0 image ≡ is_short image
  journal_short zero image = refl
  journal_short (suc file) image = refl

  abbrev one_in_zero : ℕ → List ℕ
  one_in_zero zero = one
  one_in_zero (suc file) = []

  zero_left : (file : ℕ) → one_later one file 1 (one_in_zero file) ≡ true
  zero_left zero = itself
  zero_left (suc file) = blank_left

  pub act_in_the_journal :
      OnlyChanges plain (Some 0) None None in_journal 0 in_journal 1
      × HasImage in_journal 0 0
      × ((image : List ℕ) → IsLeft in_journal.disk 0 0 image → IsActs image [])
      × ((image : List ℕ) → IsLeft in_journal.disk 0 1 image → IsActs image [] ⊎ IsActs image (act ∷ []))
      × IsFurtherAct in_journal 0 0 [] act
      × Breaks in_journal 0 in_journal 1 0
  act_in_the_journal = (
    record {
      past = λ at image le. refl;
      images = λ file le other image left. journal_elsewhere file image other left;
      puts = refl;
      lines = λ image records left are bytes line said. absurd (unsaid (one_later one) [] 1 bytes said);
    },
    record { image = []; left = blank_left },
    λ image left. empty_acts image (is_empty image left),
    λ image left. inr (subst (λ (i : List ℕ). IsActs i (act ∷ [])) (sym (is_one image left)) stands),
    follows_none (one_later one) [] 0 (λ image. refl),
    record {
      good = record { each = λ choice each. is_start.good.each choice (λ file le. sym (journal_short file (choice file)) ∙ each file le) };
      held = held_quiet in_journal 0 0 (unsaid (one_later one) [] 0) (λ at parcel has command. none_in (at, parcel) has);
      ends = λ good held.
          let on = good.each one_in_zero (λ file le. zero_left file) in
          acts_are_no_records one act [] on.records stands on.are_records;
    },
  )

  -- ---- what the filter's file held before

  -- the reply of the act
  abbrev answer : Parcel
  answer = record { agent = 1; back = true; run = act.run; issue = act.issue; bytes = act.reply }

  abbrev all_acts : ℕ → List Act
  all_acts zero = []
  all_acts (suc zero) = act ∷ []
  all_acts (suc (suc agent)) = []

  one_act : AreActs (act ∷ [])
  one_act = acts_more [] act none_are_acts (λ k d lt. absurd (omega (arith, lt))) replied

  acts_once : (agent : ℕ) → AreActs (all_acts agent)
  acts_once zero = none_are_acts
  acts_once (suc zero) = one_act
  acts_once (suc (suc agent)) = none_are_acts

  are_acts : (left : ℕ → ℕ → List ℕ → Bool) → ((image : List ℕ) → left 1 0 image ≡ bytes_eq image one)
      → ((file : ℕ) (image : List ℕ) → left (suc (suc file)) 0 image ≡ is_short image)
      → (agent : ℕ) (image : List ℕ) → IsAgent agent → left agent 0 image ≡ true → IsActs image (all_acts agent)
  are_acts left here short zero image is there = absurd (omega (arith, is.0))
  are_acts left here short (suc zero) image is there = subst (λ (i : List ℕ). IsActs i (act ∷ [])) (sym (is_one image (sym (here image) ∙ there))) stands
  are_acts left here short (suc (suc agent)) image is there = empty_acts image (is_empty image (sym (short agent image) ∙ there))

  of_the_act : IsOfAnAct all_acts answer
  of_the_act = record {
    is_agent = (omega arith, omega arith);
    reply = record { act = act; has = (0, omega arith, refl); of_run = refl; of_issue = refl; reply = refl };
  }

  -- good, where the replies put are the act's, and no command was put
  good_acts : (left : ℕ → ℕ → List ℕ → Bool) (puts : List (ℕ × Parcel)) → ((image : List ℕ) → left 0 0 image ≡ is_short image)
      → ((image : List ℕ) → left 1 0 image ≡ bytes_eq image one) → ((file : ℕ) (image : List ℕ) → left (suc (suc file)) 0 image ≡ is_short image)
      → ((at : ℕ) (parcel : Parcel) → Contains (puts_to (site_of left puts []) 0) (at, parcel) → answer ≡ parcel) → IsGood (site_of left puts []) 0
  good_acts left puts journal here short answers = record {
    each = λ choice each. record {
      records = [];
      acts = all_acts;
      are_records = empty_records (choice 0) (is_empty (choice 0) (sym (journal (choice 0)) ∙ each 0 (omega arith)));
      are_acts = λ agent is. are_acts left here short agent (choice agent) is (each agent is.1);
      agree = record {
        is_run = tt;
        acts_once = λ agent is. acts_once agent;
        replies = λ at parcel has back. subst (λ (p : Parcel). IsOfAnAct all_acts p) (answers at parcel has) of_the_act;
        commands = λ at parcel has command of. absurd (not_begun parcel.run of);
        acts_sent = λ agent a is has of. absurd (not_begun a.run of);
        answers = λ run issue moment status rule text of has. absurd (not_begun run of);
      };
    };
  }

  abbrev forgets : SiteView
  forgets = site_of (act_first one) ((0, answer) ∷ []) []

  forgets_elsewhere : (file : ℕ) (image : List ℕ) → file ≢ 1 → act_first one file 1 image ≡ true → act_first one file 0 image ≡ true
  forgets_elsewhere zero image ne left = left
  forgets_elsewhere (suc zero) image ne left = absurd (ne refl)
  forgets_elsewhere (suc (suc file)) image ne left = left

  forgets_later : (file : ℕ) → act_first one file 1 [] ≡ true
  forgets_later zero = blank_left
  forgets_later (suc zero) = blank_left
  forgets_later (suc (suc file)) = blank_left

  the_answer : (beat at : ℕ) (parcel : Parcel) → Contains (puts_to forgets beat) (at, parcel) → answer ≡ parcel
  the_answer beat at parcel has = ap (λ (e : ℕ × Parcel). e.1) (only_entry beat 0 answer (at, parcel) (omega arith) has)

  pub act_to_another_file :
      OnlyChanges plain (Some 1) None None forgets 0 forgets 1
      × HasImage forgets 1 0
      × ((image : List ℕ) → IsLeft forgets.disk 1 1 image → IsActs image [] ⊎ IsActs image (act ∷ []))
      × IsFurtherAct forgets 0 1 [] act
      × Breaks forgets 0 forgets 1 1
  act_to_another_file = (
    record {
      past = λ at image le. refl;
      images = λ file le other image left. forgets_elsewhere file image other left;
      puts = entry_now {T = Parcel} 1 0 [] answer (omega arith) ∙ sym (entry_now {T = Parcel} 0 0 [] answer (omega arith));
      lines = λ image records left are bytes line said. absurd (unsaid (act_first one) ((0, answer) ∷ []) 1 bytes said);
    },
    record { image = one; left = itself },
    λ image left. inl (empty_acts image (is_empty image left)),
    follows_none (act_first one) ((0, answer) ∷ []) 1 (λ image. refl),
    record {
      good = good_acts (act_first one) ((0, answer) ∷ []) (λ image. refl) (λ image. refl) (λ file image. refl) (the_answer 0);
      held = held_quiet forgets 1 0 (unsaid (act_first one) ((0, answer) ∷ []) 0)
          (λ at parcel has command. both_ways parcel.back command (subst (λ (p : Parcel). p.back ≡ true) (the_answer 0 at parcel has) refl));
      ends = λ good held.
          let on = good.each (λ file. []) (λ file le. forgets_later file) in
          let there : Contains (puts_to forgets 1) (0, answer) =
          subst (λ (l : List (ℕ × Parcel)). Contains l (0, answer)) (sym (entry_now {T = Parcel} 1 0 [] answer (omega arith))) (0, omega arith, refl) in
          let of_act = on.agree.replies 0 answer there refl in
          no_act_in (on.acts 1) of_act.reply.act
          (same_acts [] (on.acts 1) [] (on.are_acts 1 (omega arith, omega arith)) (empty_acts [] (is_empty [] blank_left)))
          of_act.reply.has;
    },
  )

  -- ---- a reply goes back

  -- the same bytes as a command
  abbrev forth : Parcel
  forth = record { agent = 1; back = false; run = act.run; issue = act.issue; bytes = act.reply }

  abbrev before_forth : SiteView
  before_forth = site_of (act_always one) [] []

  abbrev with_forth : SiteView
  with_forth = site_of (act_always one) ((1, forth) ∷ []) []

  abbrev only_act : List Act
  only_act = act ∷ []

  pub reply_as_a_command :
      OnlyChanges plain None (Some forth) None before_forth 0 with_forth 1
      × IsAgent forth.agent
      × EachFilter before_forth 0 forth.agent (λ acts. HasReply acts forth.run forth.issue (IsBytes forth.bytes))
      × Breaks before_forth 0 with_forth 1 0
  reply_as_a_command = (
    record {
      past = λ at image le. same_always at image;
      images = λ file le other image left. always file image left;
      puts = entry_now {T = Parcel} 1 1 [] forth (omega arith);
      lines = λ image records left are bytes line said. absurd (unsaid (act_always one) ((1, forth) ∷ []) 1 bytes said);
    },
    (omega arith, omega arith),
    λ image left. record {
      acts = act ∷ [];
      are = subst (λ (i : List ℕ). IsActs i (act ∷ [])) (sym (is_one image left)) stands;
      so = of_the_act.reply;
    },
    record {
      good = good_acts (act_always one) [] (λ image. refl) (λ image. refl) (λ file image. refl) (λ at parcel has. absurd (none_in (at, parcel) has));
      held = held_quiet before_forth 0 0 (unsaid (act_always one) [] 0) (λ at parcel has command. none_in (at, parcel) has);
      ends = λ good held.
          let put : Contains (puts_to with_forth 1) (1, forth) =
          subst (λ (l : List (ℕ × Parcel)). Contains l (1, forth)) (sym (entry_now {T = Parcel} 1 1 [] forth (omega arith))) (0, omega arith, refl) in
          held.none_while_empty [] blank_left (is_empty [] blank_left) 1 forth (record { has = put; command = refl; own = refl });
    },
  )
    where
      same_always : (at : ℕ) (image : List ℕ) → act_always one 0 at image ≡ act_always one 0 at image
      same_always at image = refl

      always : (file : ℕ) (image : List ℕ) → act_always one file 1 image ≡ true → act_always one file 0 image ≡ true
      always zero image left = left
      always (suc zero) image left = left
      always (suc (suc file)) image left = left

-- ---- the number of a Begin is unused

-- the journal has the first image alone from beat 1 on, and the file of agent 1 the second one at each beat
abbrev pub both : List ℕ → List ℕ → ℕ → ℕ → List ℕ → Bool
both one two zero zero image = is_short image
both one two zero (suc beat) image = bytes_eq image one
both one two (suc zero) beat image = bytes_eq image two
both one two (suc (suc file)) beat image = is_short image

module _ (moment : ℕ) (books : List (List ℕ)) (bind : List ℕ) (one two : List ℕ) (act : Act) (acted : IsActs two (act ∷ []))
    (replied : IsReplied [] act) (alone : IsJournalRun (Begin act.run moment books bind ∷ []))
    (begun : IsRecords one (Begin act.run moment books bind ∷ [])) where
  abbrev used : SiteView
  used = site_of (both one two) [] []

  used_elsewhere : (file : ℕ) (image : List ℕ) → file ≢ 0 → both one two file 1 image ≡ true → both one two file 0 image ≡ true
  used_elsewhere zero image ne left = absurd (ne refl)
  used_elsewhere (suc zero) image ne left = left
  used_elsewhere (suc (suc file)) image ne left = left

  abbrev used_images : ℕ → List ℕ
  used_images zero = one
  used_images (suc zero) = two
  used_images (suc (suc file)) = []

  used_left : (file : ℕ) → both one two file 1 (used_images file) ≡ true
  used_left zero = (bytes_eq-Decides one one).1 refl
  used_left (suc zero) = (bytes_eq-Decides two two).1 refl
  used_left (suc (suc file)) = blank_left

  no_send : (task issue agent at : ℕ) (bytes : List ℕ) → Begin act.run moment books bind ≡ Send task issue agent at bytes → ⊥
  no_send task issue agent at bytes e = cc

  not_sent : (issue agent : ℕ) (bytes : List ℕ) → IsSent (Begin act.run moment books bind ∷ []) issue agent bytes → ⊥
  not_sent issue agent bytes sent = elim (Contains-push_cases [] (Begin act.run moment books bind) (Send sent.task issue agent sent.moment bytes) sent.has) [
    | inl none ↦ none_in _ none
    | inr is ↦ no_send sent.task issue agent sent.moment bytes is
  ]

  pub begin_on_a_used_number :
      OnlyChanges plain (Some 0) None None used 0 used 1
      × HasImage used 0 0
      × ((image : List ℕ) → IsLeft used.disk 0 0 image → IsRecords image [])
      × ((image : List ℕ) → IsLeft used.disk 0 1 image → IsRecords image [] ⊎ IsRecords image (Begin act.run moment books bind ∷ []))
      × IsJournalRun (Begin act.run moment books bind ∷ [])
      × Breaks used 0 used 1 0
  begin_on_a_used_number = (
    record {
      past = λ at image le. refl;
      images = λ file le other image left. used_elsewhere file image other left;
      puts = refl;
      lines = λ image records left are bytes line said. absurd (unsaid (both one two) [] 1 bytes said);
    },
    record { image = []; left = blank_left },
    λ image left. empty_records image (is_empty image left),
    λ image left. inr (subst (λ (i : List ℕ). IsRecords i (Begin act.run moment books bind ∷ [])) (sym ((bytes_eq-Decides image one).0 left)) begun),
    alone,
    record {
      good = good_acts two act acted replied (both one two) [] (λ image. refl) (λ image. refl) (λ file image. refl)
          (λ at parcel has. absurd (none_in (at, parcel) has));
      held = held_quiet used 0 0 (unsaid (both one two) [] 0) (λ at parcel has command. none_in (at, parcel) has);
      ends = λ good held.
          let on = good.each used_images (λ file le. used_left file) in
          let records : on.records ≡ Begin act.run moment books bind ∷ [] = same_records one on.records (Begin act.run moment books bind ∷ []) on.are_records begun in
          let acts : on.acts 1 ≡ act ∷ [] = same_acts two (on.acts 1) (act ∷ []) (on.are_acts 1 (omega arith, omega arith)) acted in
          let has : Contains (on.acts 1) act = subst (λ (l : List Act). Contains l act) (sym acts) (0, omega arith, refl) in
          let of : run_of on.records ≡ Some act.run = subst (λ (l : List Record). run_of l ≡ Some act.run) (sym records) refl in
          let sent = on.agree.acts_sent 1 act (omega arith, omega arith) has of in
          not_sent act.issue 1 act.command (subst (λ (l : List Record). IsSent l act.issue 1 act.command) records sent);
    },
  )
