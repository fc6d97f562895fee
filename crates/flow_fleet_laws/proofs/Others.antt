-- What one call does to the agreement of a run, as it sees the rack.
use Rattle.std.proofs.Common.{◌≡◌, ◌≢◌, ◌⊎◌, ℕ, ◌<◌, ◌≤◌, ◌^◌, ◌==◌, Bool, true, false, List, [], ◌∷◌, ◌++◌, refl, sym, ◌∙◌, subst, ap, IsTrue, arith}
use Rattle.std.specs.Prelude.{Some, None}
use Rattle.std.proofs.lemmas.Bool.{eqb-true}
use Rattle.cacao_site.specs.View.{SiteView, LinkView}
use Rattle.cacao_site.specs.DiskCalls.{KeepsDisk, OnlyFile}
use Rattle.cacao_site.specs.LinkCalls.{Gains}
use Rattle.cacao_site.specs.Sound.{IsSound}
use Rattle.run_records.specs.declared.record.Record.{Record}
use Rattle.flow_laws.specs.Beats.{IsFurther, IsFurtherAct}
use Rattle.flow_laws.specs.Fresh.{IsFresh}
use Rattle.flow_laws.specs.Images.{IsActs}
use Rattle.flow_laws.specs.Journals.{IsSent, run_of}
use Rattle.flow_laws.specs.Since.{AgreedSince}
use Rattle.flow_laws.proofs.Basics.{same_some}
use Rattle.flow_laws.proofs.Calls.{since_quiet, since_record, since_act_put, since_command, since_foreign, since_line, since_other_line, since_reply_put}
use Rattle.flow_fleet_laws.specs.Events.{ActBy, CommandBy, LineBy, RecordBy, ReplyBy}
use Rattle.flow_fleet_laws.specs.Fleets.{IsItsOwn}
use Rattle.flow_fleet_laws.specs.Lines.{IsNoRecords}
use Rattle.flow_fleet_laws.specs.Shrinking.{OnlyShrinks}
use Rattle.flow_fleet_laws.specs.Speeches.{Form, head_of, spoken}
use Rattle.flow_fleet_laws.specs.Speeches.Form.{without_numbers, with_numbers}
use Rattle.cacao_site.specs.RunViews.{file_of, rack_file}
use Rattle.flow_fleet_laws.specs.Views.{seen_from}
use Rattle.flow_fleet_laws.proofs.Lines.{Apart, Says, heard_line, not_heard, says_line, unlike}
use Rattle.flow_fleet_laws.proofs.Choices.{sent_by_good}
use Rattle.flow_fleet_laws.proofs.Seen.{filter_file, goes_on-seen, keeps-seen, not_others, only-seen, puts-seen, sound-seen}

-- ---- a first record in each form

head_same : (form : Form) (run other : ℕ) → other ≡ run → (spoken form run).head (Some other) ≡ (spoken form run).head None
head_same without_numbers run other is = refl
head_same with_numbers run other is = ap head_of is

further_in : (form other : Form) (run : ℕ) (site : SiteView) (beat : ℕ) (records : List Record) (next : Record) → (records ≡ [] → run_of (next ∷ []) ≡ Some run)
    → IsFurther (spoken form run) site beat records next → IsFurther (spoken other run) site beat records next
further_in form other run site beat records next begins further = record {
  first = λ none.
      let f = further.first none in
      record {
        run = f.run;
        moment = f.moment;
        books = f.books;
        bind = f.bind;
        is = f.is;
        alone = f.alone;
        unused = f.unused;
        speaks = head_same other run f.run (same_some (sym (ap (λ (r : Record). run_of (r ∷ [])) f.is) ∙ begins none));
      };
  step = further.step;
  backed = further.backed;
}

not_own : (a b : ℕ) → a ≢ b → (c : Bool) → (a == b) ≡ c → c ≡ false
not_own a b ne true e = absurd (ne (eqb-true a b e))
not_own a b ne false e = refl

is_own_false : (form : Form) (run number : ℕ) → number ≢ run → (spoken form run).is_own number ≡ false
is_own_false without_numbers run number ne = not_own number run ne (number == run) refl
is_own_false with_numbers run number ne = not_own number run ne (number == run) refl

-- ---- one call, in the eyes of the run at a place

module _ (form : Form) (place run : ℕ) (start old new : SiteView) (sound : IsSound old)
    (so_far : AgreedSince (spoken form run) (seen_from place start) (seen_from place old)) where
  abbrev After : Type 0
  After = AgreedSince (spoken form run) (seen_from place start) (seen_from place new)

  pub shrunk : OnlyShrinks old new → After
  shrunk only =
      since_quiet (spoken form run) (seen_from place start) (seen_from place old) (seen_from place new) so_far (sound-seen place old sound) (goes_on-seen place only.goes_on)
      (λ f le beat image from to left. only.images (rack_file place f) beat image from to left) only.puts only.said

  -- a line that is no record's
  pub none_line : (line : List ℕ) → IsNoRecords line → KeepsDisk old.disk new.disk → new.link.puts ≡ old.link.puts
      → Gains old.link.said (new.disk.beat, line) new.link.said → After
  none_line line none disk puts gained =
      since_other_line (spoken form run) (seen_from place start) (seen_from place old) (seen_from place new) so_far (sound-seen place old sound)
      line (keeps-seen place disk) puts gained (λ image records left are is. not_heard form run (run_of records) line none is)

  -- ---- of another run

  pub others_record : (other : ℕ) (P : List ℕ → Type 0) → place ≤ 15 → other ≤ 15 → other ≢ place → OnlyFile (file_of other) old new P → After
  others_record other P low high ne only =
      since_quiet (spoken form run) (seen_from place start) (seen_from place old) (seen_from place new) so_far (sound-seen place old sound)
      (goes_on-seen place only.each.goes_on)
      (λ file le beat image from to left. subst IsTrue ((only.others (rack_file place file) (not_others place other file low high ne le)).images beat image from to) left)
      (ap (λ (l : LinkView). l.puts) only.rest.link) (ap (λ (l : LinkView). l.said) only.rest.link)

  pub others_command : (other number : ℕ) → number ≢ run → IsItsOwn old place run → CommandBy other number old new → After
  others_command other number ne own by =
      let differs : by.parcel.run ≢ run = λ e. ne (sym by.of_run ∙ e) in
      since_foreign (spoken form run) (seen_from place start) (seen_from place old) (seen_from place new) so_far (sound-seen place old sound) by.parcel
      (puts-seen place by.parcel by.puts) by.command (is_own_false form run by.parcel.run differs)
      (λ image records left are of. differs (own image records left are by.parcel.run of))

  -- a line of another run, or in another form
  pub others_line : (how : Form) (other number : ℕ) → number < 2 ^ 64 → run < 2 ^ 64 → Apart how form number run → IsItsOwn old other number → IsItsOwn old place run
      → LineBy how other number old new → After
  others_line how other number small small' apart theirs own by =
      let image = sound.images (file_of other) old.disk.beat so_far.told (omega arith) in
      let there = by.stands image.0 image.1 in
      let says : Says how number by.line = says_line how number there.records by.line (theirs image.0 there.records image.1 there.are) there.so in
      since_other_line (spoken form run) (seen_from place start) (seen_from place old) (seen_from place new) so_far (sound-seen place old sound)
      by.line (keeps-seen place by.disk) by.puts by.gained
      (λ image records left are is. unlike how form number run by.line small small' apart says (heard_line form run (run_of records) by.line (own image records left are) is))

  -- ---- its own

  pub own_record : (how : Form) → AgreedSince (spoken how run) (seen_from place start) (seen_from place old) → IsFresh (seen_from place start) run start.disk.beat
      → RecordBy how place run start old new → After
  own_record how agreed fresh by =
      let some = sound.images (file_of place) old.disk.beat so_far.told (omega arith) in
      let further = by.further fresh (agreed.each old.disk.beat agreed.later (omega arith)) in
      since_record (spoken form run) (seen_from place start) (seen_from place old) (seen_from place new) so_far (sound-seen place old sound) by.records by.next
      (only-seen place 0 _ by.only) (record { image = some.0; left = some.1 }) by.before
      (further_in how form run (seen_from place old) old.disk.beat by.records by.next by.begins further)

  pub own_line : LineBy form place run old new → After
  own_line by =
      since_line (spoken form run) (seen_from place start) (seen_from place old) (seen_from place new) so_far (sound-seen place old sound) by.line
      (keeps-seen place by.disk) by.puts by.gained by.stands

  pub own_command : CommandBy place run old new → After
  own_command by =
      since_command (spoken form run) (seen_from place start) (seen_from place old) (seen_from place new) so_far (sound-seen place old sound) by.parcel
      (puts-seen place by.parcel by.puts) by.command by.sent

  -- ---- of a filter: an act on a command of this run is on its Send, and one of another run is none of its own

  pub act_kept : (agent : ℕ) → ActBy agent old new → After
  act_kept agent by =
      let v = seen_from place old in
      let file = filter_file place agent by.is_agent.0 by.is_agent.1 in
      let now = so_far.each old.disk.beat so_far.later (omega arith) in
      let some = sound.images agent old.disk.beat so_far.told (omega arith) in
      let only : OnlyFile agent v (seen_from place new) (λ image. IsActs image by.acts ⊎ IsActs image (by.acts ++ by.act ∷ [])) =
      only-seen place agent _ (subst (λ (f : ℕ). OnlyFile f old new (λ image. IsActs image by.acts ⊎ IsActs image (by.acts ++ by.act ∷ []))) (sym file) by.only) in
      let same : (image : List ℕ) → v.disk.left agent old.disk.beat image ≡ old.disk.left agent old.disk.beat image = λ image. ap (λ (f : ℕ). old.disk.left f old.disk.beat image) file in
      let further : IsFurtherAct v old.disk.beat agent by.acts by.act = record {
        other = by.other;
        replied = by.replied;
        sent = λ image records left stands of.
            let sent = sent_by_good v (sound-seen place old sound) so_far.told old.disk.beat (omega arith) now.good by.at by.parcel by.put by.command image records left stands (of ∙ ap Some by.run_is) in
            subst (λ (n : ℕ). IsSent records n agent by.act.command) (sym by.issue_is)
            (subst (λ (n : ℕ). IsSent records by.parcel.issue n by.act.command) by.agent_is
            (subst (λ (l : List ℕ). IsSent records by.parcel.issue by.parcel.agent l) (sym by.bytes_is) sent));
      } in
      since_act_put (spoken form run) (seen_from place start) v (seen_from place new) so_far (sound-seen place old sound) agent by.acts by.act by.is_agent only
      (record { image = some.0; left = subst IsTrue (sym (same some.0)) some.1 })
      (λ image left. by.before image (subst IsTrue (same image) left)) further by.at by.parcel by.put by.run_is

  pub reply_kept : ReplyBy old new → After
  reply_kept by =
      let some = sound.images by.parcel.agent old.disk.beat so_far.told (omega arith) in
      let file = filter_file place by.parcel.agent by.is_agent.0 by.is_agent.1 in
      since_reply_put (spoken form run) (seen_from place start) (seen_from place old) (seen_from place new) so_far (sound-seen place old sound) by.parcel (puts-seen place by.parcel by.puts) by.back by.is_agent
      (λ image left. by.acted image (subst IsTrue (ap (λ (f : ℕ). old.disk.left f old.disk.beat image) file) left))
      (record { image = some.0; left = subst IsTrue (sym (ap (λ (f : ℕ). old.disk.left f old.disk.beat some.0) file)) some.1 })
