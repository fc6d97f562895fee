-- How many calls and bytes a call of the program uses.
use Rattle.std.proofs.Common.{◌≡◌, ◌⊎◌, inl, inr, refl, sym, ◌∙◌, ap, subst, arith, ℕ, zero, suc, ◌+◌, ◌*◌, ◌≤◌, Bool, true, false, List, [], ◌∷◌, ◌++◌, length, map, length-append, Option, Some, None, Result, Ok, Err, if◌then◌else◌}
use Rattle.std.specs.Prelude.{IfSome, IsTrue, option_map, option_to_list}
use Rattle.std.specs.Option.{option_map_or}
use Rattle.std.proofs.lemmas.List.{length-map}
use Rattle.serde_json.specs.Data.{Data}
use Rattle.cacao_site.specs.LinkCalls.{GainsAll}
use Rattle.cacao_site.specs.View.{CountsView, DiskView, LinkView, SiteView, device_calls}
use Rattle.run_records.specs.Layout.{act_layout, layout}
use Rattle.run_records.specs.declared.act.Act.{Act}
use Rattle.run_records.specs.declared.record.Record.{Record}
use Rattle.flow_engine_answers.specs.declared.answers.OperatorAnswer.{OperatorAnswer}
use Rattle.flow_core_rules.specs.Givens.{Given}
use Rattle.flow_world_steps.specs.Sums.{total}
use Rattle.flow_world_steps.specs.Steps.{Steps}
use Rattle.flow_world_steps.specs.Worlds.{Notes, Phase, World, disk_failed, holds, refused}
use Rattle.flow_world_steps.specs.Written.{act_bytes, record_bytes}
use Rattle.flow_world_steps.proofs.Failing.{fails_notes}
use Rattle.flow_world_steps.proofs.Unsure.{steps_unsure}
use Rattle.cacao_site.specs.declared.parcel.Parcel.{Parcel}
use Rattle.flow_world.specs.Openings.{RefusesOpening, blocks_to}
use Rattle.flow_world.specs.Sessions.{HasRefused, Went}
use Rattle.flow_world.specs.WorldError.{WorldError}
use Rattle.cacao_cli_words.specs.Requests.{RunRequest}
use Rattle.cacao_cli_words.specs.Words.{Text}
use Rattle.cacao_cli_ends.specs.Asked.{Asked, canonises, checks, runs, shows, lists_rules, decides, shadows, rehearses, audits}
use Rattle.cacao_cli_status_laws.specs.Ended.{Ended, Performs}
use Rattle.cacao_cli_ends.specs.Ends.{End, done, not_understood, past}
use Rattle.cacao_cli_ends.specs.Files.{NamedText, ShelfCall, has_too_many}
use Rattle.cacao_cli_session_laws.specs.Holding.{ClosesSo, RefusesSo}
use Rattle.cacao_cli_status_laws.specs.Leaves.{LeavesSession}
use Rattle.cacao_cli_ends.specs.Stays.{WritesNothing}
use Rattle.cacao_cli_ends.specs.Lines.{Tells}
use Rattle.cacao_cli_status_laws.specs.Usage.{DiskCallsFew, IsFew, Usage, UsesFew, blocks, entry_bytes, held_usage, opening_usage, opens_only, reads_to, refused_usage, session_usage, went_usage}
use Rattle.cacao_cli_ends.specs.Work.{Work, ends, or_end, start_of, starts, trees_of, trees_wanted, work, work_on}
use Rattle.cacao_cli_ends.specs.declared.limit.Limit.TheVariants.{BookCount}
use Rattle.cacao_cli_status_laws.proofs.LeaveLemmas.{IsBrief, silent, one_line, judged, compared, rehearsed, brief-audit, brief-canon, brief-check, brief-rehearse, leaves-ended}
use Rattle.cacao_cli_looks.proofs.OpenLemmas.{work-some}
use Rattle.cacao_cli_ends.proofs.ReadLemmas.{Read}
use Rattle.cacao_cli_ends.proofs.SayingLemmas.{AreTold, SaysSome, Tallies, tells-some}
use Rattle.cacao_cli_status_laws.proofs.StartLemmas.{tells-line}

-- ---- lines alone

few-tally : (x y : ℕ) (a b : Option (List (ℕ × Text))) → Tallies 1 x y a b
    → IfSome a (λ (before : List (ℕ × Text)). IfSome b (λ (after : List (ℕ × Text)). y + length before ≤ x + length after + 10 + 0 + 0 + 0))
few-tally x y None b h = tt
few-tally x y (Some a) None h = tt
few-tally x y (Some a) (Some b) h = omega (arith, h)

few-some : (old new : SiteView) → SaysSome 1 old new → IsFew (opens_only []) old new
few-some old new says = record {
  calls = λ told. few-tally (device_calls old) (device_calls new) old.link.said new.link.said says.calls;
  disk_calls = λ told. omega (arith, says.disk_calls);
  written = omega (arith, says.disk.written);
  one = omega arith;
}

-- the work is a line, or none
brief-some : (w : Work) (old mid new : SiteView) (last : End) (answer : ℕ) → IsBrief w → Performs w old mid last → Tells last mid new answer → SaysSome 1 old new
brief-some w old mid new last answer (silent end) h tells = work-some [] end old mid new last answer h tells
brief-some w old mid new last answer (one_line line) h tells = work-some (line ∷ []) done old mid new last answer h tells
brief-some w old mid new last answer (judged trees mode kept brief) (inl h) tells = brief-some kept old mid new last answer brief h.1 tells
brief-some w old mid new last answer (judged trees mode kept brief) (inr (inl h)) tells = subst (λ (s : SiteView). SaysSome 1 s new) h.same (tells-some last mid new answer tells)
brief-some w old mid new last answer (judged trees mode kept brief) (inr (inr h)) tells = subst (λ (s : SiteView). SaysSome 1 s new) h.same (tells-some last mid new answer tells)
brief-some w old mid new last answer (compared files) h tells = subst (λ (s : SiteView). SaysSome 1 s new) h.same (tells-some last mid new answer tells)
brief-some w old mid new last answer (rehearsed positions) h tells = subst (λ (s : SiteView). SaysSome 1 s new) h.same (tells-some last mid new answer tells)

-- ---- one file

few-file : (x y q : ℕ) (a b : Option (List (ℕ × Text)))
    → IfSome a (λ (before : List (ℕ × Text)). IfSome b (λ (after : List (ℕ × Text)). y + length before ≤ x + length after + 4 + q))
    → IfSome a (λ (before : List (ℕ × Text)). IfSome b (λ (after : List (ℕ × Text)). y + length before ≤ x + length after + 10 + 5 * 1 + (q + 0) + 0))
few-file x y q None b h = tt
few-file x y q (Some a) None h = tt
few-file x y q (Some a) (Some b) h = omega (arith, h)

few-opened : (file : ℕ) (old new : SiteView) → WritesNothing file old new → IsFew (opens_only (new.disk.reads file ∷ [])) old new
few-opened file old new h = record {
  calls = λ told. few-file (device_calls old) (device_calls new) (blocks (new.disk.reads file)) old.link.said new.link.said (h.calls told);
  disk_calls = λ told. omega (arith, h.disk_calls told);
  written = omega (arith, h.written);
  one = omega arith;
}

-- ---- a session, up to its last line

-- with one call left for that line
record IsFewer (usage : Usage) (old new : SiteView) : Type 0 where
  pub told : AreTold old.link.said new.link.said
  pub calls : IsTrue old.disk.told → IfSome old.link.said (λ before. IfSome new.link.said (λ after.
      device_calls new + length before ≤ device_calls old + length after + 9 + 5 * length usage.opened + total blocks usage.opened + 4 * length usage.appended))
  pub disk_calls : DiskCallsFew usage old new
  pub written : new.disk.written ≤ old.disk.written + 9 * length usage.opened + total entry_bytes usage.appended + total entry_bytes usage.failed
  pub one : length usage.failed ≤ 1

last-call : (x y z n b e : ℕ) (p q r : Option (List (ℕ × Text))) → AreTold p q
    → IfSome p (λ (before : List (ℕ × Text)). IfSome q (λ (after : List (ℕ × Text)). y + length before ≤ x + length after + 9 + n + b + e)) → Tallies 1 y z q r
    → IfSome p (λ (before : List (ℕ × Text)). IfSome r (λ (after : List (ℕ × Text)). z + length before ≤ x + length after + 10 + n + b + e))
last-call x y z n b e None q r told few says = tt
last-call x y z n b e (Some p) None r told few says = absurd told
last-call x y z n b e (Some p) (Some q) None told few says = tt
last-call x y z n b e (Some p) (Some q) (Some r) told few says = omega (arith, few, says)

few-then : (usage : Usage) (old mid new : SiteView) → IsFewer usage old mid → SaysSome 1 mid new → IsFew usage old new
few-then usage old mid new few says = record {
  calls = λ told. last-call (device_calls old) (device_calls mid) (device_calls new) (5 * length usage.opened) (total blocks usage.opened) (4 * length usage.appended)
      old.link.said mid.link.said new.link.said few.told (few.calls told) says.calls;
  disk_calls = λ told. let calls = few.disk_calls told in omega (arith, calls, says.disk_calls);
  written = omega (arith, few.written, says.disk.written);
  one = few.one;
}

-- ---- files up to some agent

length-reads : (n : ℕ) (disk : DiskView) → length (reads_to n disk) ≡ n
length-reads zero disk = refl
length-reads (suc n) disk = ap suc (length-reads n disk)

blocks-reads : (n : ℕ) (disk : DiskView) → total blocks (reads_to n disk) ≡ blocks_to n disk
blocks-reads zero disk = refl
blocks-reads (suc n) disk = ap (λ (b : ℕ). blocks (disk.reads (suc n)) + b) (blocks-reads n disk)

total-append : {T : Type 0} (f : T → ℕ) (xs ys : List T) → total f (xs ++ ys) ≡ total f xs + total f ys
total-append {T} f [] ys = omega arith
total-append {T} f (x ∷ xs) ys = let rest = total-append f xs ys in omega (arith, rest)

total-map : {S T : Type 0} (f : T → ℕ) (g : S → T) (xs : List S) → total f (map g xs) ≡ total (λ (x : S). f (g x)) xs
total-map {S} {T} f g [] = refl
total-map {S} {T} f g (x ∷ xs) = let rest = total-map f g xs in omega (arith, rest)

total-option : {T : Type 0} (g : T → List ℕ) (o : Option T) → total entry_bytes (option_to_list (option_map g o)) ≡ option_map_or (λ (x : T). entry_bytes (g x)) o 0
total-option {T} g None = refl
total-option {T} g (Some x) = omega arith

-- no line was said
told-same : (a b : Option (List (ℕ × Text))) → b ≡ a → AreTold a b
told-same None None e = tt
told-same None (Some b) e = absurd (cc)
told-same (Some a) None e = absurd (cc)
told-same (Some a) (Some b) e = tt

none-said : (x y n b e : ℕ) (p q : Option (List (ℕ × Text))) → q ≡ p → y ≤ x + 9 + n + b + e
    → IfSome p (λ (before : List (ℕ × Text)). IfSome q (λ (after : List (ℕ × Text)). y + length before ≤ x + length after + 9 + n + b + e))
none-said x y n b e None q same le = tt
none-said x y n b e (Some p) None same le = tt
none-said x y n b e (Some p) (Some q) same le = let is : q ≡ p = cc in let long = ap length is in omega (arith, le, long)

-- these were
told-more : (p q : Option (List (ℕ × Text))) (said : List (ℕ × Text)) → GainsAll p said q → AreTold p q
told-more None None said h = tt
told-more None (Some q) said h = h
told-more (Some p) None said h = h
told-more (Some p) (Some q) said h = tt

more-said : (x y n b e : ℕ) (p q : Option (List (ℕ × Text))) (said : List (ℕ × Text)) → GainsAll p said q → y ≤ x + length said + 9 + n + b + e
    → IfSome p (λ (before : List (ℕ × Text)). IfSome q (λ (after : List (ℕ × Text)). y + length before ≤ x + length after + 9 + n + b + e))
more-said x y n b e None q said h le = tt
more-said x y n b e (Some p) None said h le = tt
more-said x y n b e (Some p) (Some q) said h le = let long : length q ≡ length p + length said = ap length h ∙ length-append p said in omega (arith, le, long)

-- ---- a session that refuses while files are opened

told-then : (old new : SiteView) → new.disk.told ≡ old.disk.told → IsTrue old.disk.told → IsTrue new.disk.told
told-then old new e told = subst IsTrue (sym e) told

said-of : (old new : SiteView) → new.link ≡ old.link → new.link.said ≡ old.link.said
said-of old new e = ap (λ (l : LinkView). l.said) e

says-of : (old new : SiteView) → new.counts ≡ old.counts → new.counts.says ≡ old.counts.says
says-of old new e = ap (λ (c : CountsView). c.says) e

opening-few : (error : WorldError) (given : Given) (run : ℕ) (old mid : SiteView) (r : RefusesOpening error given run old mid) → IsFewer (opening_usage r) old mid
opening-few error given run old mid (inl r) = record {
  told = told-same old.link.said mid.link.said (said-of old mid r.opens.only.rest.link);
  calls = λ told. none-said (device_calls old) (device_calls mid) (5 * length (mid.disk.reads 0 ∷ [])) (total blocks (mid.disk.reads 0 ∷ [])) (4 * 0) old.link.said mid.link.said
      (said-of old mid r.opens.only.rest.link) (let few = r.opens.calls told in let says = says-of old mid r.opens.only.rest.counts in omega (arith, few, says));
  disk_calls = λ told. omega (arith, r.opens.calls told);
  written = omega (arith, r.opens.written);
  one = omega arith;
}
opening-few error given run old mid (inr r) =
    let one = r.journal.opens in
    let two = r.refuses.before in
    let three = r.refuses.refuses.opens in
    let n = r.refuses.agent in
    let files : List (List ℕ) = r.middle.disk.reads 0 ∷ mid.disk.reads (n + 1) ∷ reads_to n r.refuses.middle.disk in
    let l = length-reads n r.refuses.middle.disk in
    let two_more : suc (suc (length (reads_to n r.refuses.middle.disk))) ≡ n + 2 = omega (arith, l) in
    let many : length files ≡ n + 2 = two_more in
    let filled : total blocks files ≡ blocks (r.middle.disk.reads 0) + (blocks (mid.disk.reads (n + 1)) + blocks_to n r.refuses.middle.disk) =
    ap (λ (b : ℕ). blocks (r.middle.disk.reads 0) + (blocks (mid.disk.reads (n + 1)) + b)) (blocks-reads n r.refuses.middle.disk) in
    let same = said-of old r.middle one.only.rest.link in
    let said : mid.link.said ≡ old.link.said = said-of r.refuses.middle mid three.only.rest.link ∙ said-of r.middle r.refuses.middle two.rest.link ∙ same in
    record {
      told = told-same old.link.said mid.link.said said;
      calls = λ told.
          let told_one = told-then old r.middle one.only.each.goes_on.told told in
          let told_two = told-then r.middle r.refuses.middle two.goes_on.told told_one in
          let a = one.calls told in
          let b = two.calls told_one in
          let c = three.calls told_two in
          let says : mid.counts.says ≡ old.counts.says = says-of r.refuses.middle mid three.only.rest.counts ∙ says-of r.middle r.refuses.middle two.rest.counts ∙ says-of old r.middle one.only.rest.counts in
          none-said (device_calls old) (device_calls mid) (5 * length files) (total blocks files) (4 * 0) old.link.said mid.link.said said (omega (arith, a, b, c, says, many, filled));
      disk_calls = λ told.
          let told_one = told-then old r.middle one.only.each.goes_on.told told in
          let told_two = told-then r.middle r.refuses.middle two.goes_on.told told_one in
          let a = one.calls told in
          let b = two.calls told_one in
          let c = three.calls told_two in
          omega (arith, a, b, c, many, filled);
      written = let a = one.written in let b = two.written in let c = three.written in omega (arith, a, b, c);
      one = omega arith;
    }

-- ---- a session behind its openings

length-none : {T : Type 0} (o : Option T) → o ≡ None → length (option_to_list o) ≡ 0
length-none {T} o e = ap (λ (p : Option T). length (option_to_list p)) e

length-one : {T : Type 0} (o : Option T) → length (option_to_list o) ≤ 1
length-one {T} None = omega arith
length-one {T} (Some x) = omega arith

map-none : {S T : Type 0} (g : S → T) (o : Option S) → o ≡ None → option_map g o ≡ None
map-none {S} {T} g o e = ap (option_map g) e

module _ (given : Given) (run most : ℕ) (answers : List OperatorAnswer) (old mid : SiteView) (went : Went given run most answers old mid) where
  abbrev w : World
  w = went.to

  -- the record and the act that may stand behind the others are not both there
  before-act : (old : World) → Steps went.start old → (beat : ℕ) (parcel : Parcel) → old.phase ≡ holds beat parcel → old.notes.unsure ≡ None
  before-act old steps beat parcel phase = go old.notes.unsure refl
    where
      apart : (p : Phase) → p ≡ holds beat parcel → p ≡ refused disk_failed false → ⊥
      apart p e f = let g : holds beat parcel ≡ refused disk_failed false = sym e ∙ f in cc

      go : (o : Option Record) → old.notes.unsure ≡ o → old.notes.unsure ≡ None
      go None e = e
      go (Some r) e = absurd (apart old.phase phase (steps_unsure went.start old r (ap (λ (n : Notes). n.unsure) went.begins.notes) steps e).phase)

  not-both : (w.notes.unsure ≡ None) ⊎ (w.notes.unsure_act ≡ None)
  not-both = elim went.sums.unbroken.filters [
    | inl sure ↦ inr sure.sure
    | inr over ↦
        let notes = fails_notes over.error over.parcel over.v over.old w over.fails.notes in
        inl (ap (λ (n : Notes). n.unsure) notes ∙ before-act over.old over.before over.beat over.parcel over.fails.holds_command.phase)
  ]

  few-failed : length (option_to_list (option_map layout w.notes.unsure) ++ option_to_list (option_map (λ (e : ℕ × Act). act_layout e.1) w.notes.unsure_act)) ≤ 1
  few-failed =
      let long = length-append (option_to_list (option_map layout w.notes.unsure)) (option_to_list (option_map (λ (e : ℕ × Act). act_layout e.1) w.notes.unsure_act)) in
      elim not-both [
        | inl e ↦
            let a = length-none (option_map layout w.notes.unsure) (map-none layout w.notes.unsure e) in
            let b = length-one (option_map (λ (e : ℕ × Act). act_layout e.1) w.notes.unsure_act) in
            omega (arith, long, a, b)
        | inr e ↦
            let a = length-one (option_map layout w.notes.unsure) in
            let b = length-none (option_map (λ (e : ℕ × Act). act_layout e.1) w.notes.unsure_act) (map-none (λ (e : ℕ × Act). act_layout e.1) w.notes.unsure_act e) in
            omega (arith, long, a, b)
      ]

  went-few : IsFewer (went_usage went) old mid
  went-few =
      let one = went.files.journal.opens in
      let two = went.files.others in
      let sums = went.sums in
      let start = went.start.site in
      let files : List (List ℕ) = went.files.middle.disk.reads 0 ∷ reads_to 16 start.disk in
      let many : length files ≡ 17 = ap suc (length-reads 16 start.disk) in
      let stand : length went.start.filters ≡ 16 = two.many in
      let filled : total blocks files ≡ blocks (went.files.middle.disk.reads 0) + blocks_to 16 start.disk =
      ap (λ (b : ℕ). blocks (went.files.middle.disk.reads 0) + b) (blocks-reads 16 start.disk) in
      let records : List (List ℕ) = map layout sums.adds.added in
      let acts : List (List ℕ) = map (λ (e : ℕ × Act). act_layout e.1) w.notes.acted in
      let entries : length (records ++ acts) ≡ length sums.adds.added + length w.notes.acted =
      let a = length-map sums.adds.added layout in let b = length-map w.notes.acted (λ (e : ℕ × Act). act_layout e.1) in let c = length-append records acts in omega (arith, a, b, c) in
      let grown : length w.engine.history.records ≡ length went.start.engine.history.records + length sums.adds.added =
      ap length sums.adds.is ∙ length-append went.start.engine.history.records sums.adds.added in
      let last_calls : device_calls w.site ≡ device_calls mid = ap device_calls went.to_is in
      let last_disk : w.site.disk.calls ≡ mid.disk.calls = ap (λ (s : SiteView). s.disk.calls) went.to_is in
      let last_written : w.site.disk.written ≡ mid.disk.written = ap (λ (s : SiteView). s.disk.written) went.to_is in
      let said_start : start.link.said ≡ old.link.said = said-of went.files.middle start two.rest.link ∙ said-of old went.files.middle one.only.rest.link in
      let gains : GainsAll old.link.said sums.speaks.said mid.link.said =
      subst (λ (s : SiteView). GainsAll old.link.said sums.speaks.said s.link.said) went.to_is
      (subst (λ (o : Option (List (ℕ × Text))). GainsAll o sums.speaks.said w.site.link.said) said_start sums.speaks.says) in
      let behind : total entry_bytes (records ++ acts) ≡ total record_bytes sums.adds.added + total act_bytes w.notes.acted =
      let a = total-append entry_bytes records acts in
      let b : total entry_bytes records ≡ total record_bytes sums.adds.added = total-map entry_bytes layout sums.adds.added in
      let c : total entry_bytes acts ≡ total act_bytes w.notes.acted = total-map entry_bytes (λ (e : ℕ × Act). act_layout e.1) w.notes.acted in
      omega (arith, a, b, c) in
      let unsure : total entry_bytes (option_to_list (option_map layout w.notes.unsure) ++ option_to_list (option_map (λ (e : ℕ × Act). act_layout e.1) w.notes.unsure_act))
      ≡ option_map_or record_bytes w.notes.unsure 0 + option_map_or act_bytes w.notes.unsure_act 0 =
      let a = total-append entry_bytes (option_to_list (option_map layout w.notes.unsure)) (option_to_list (option_map (λ (e : ℕ × Act). act_layout e.1) w.notes.unsure_act)) in
      let b : total entry_bytes (option_to_list (option_map layout w.notes.unsure)) ≡ option_map_or record_bytes w.notes.unsure 0 = total-option layout w.notes.unsure in
      let c : total entry_bytes (option_to_list (option_map (λ (e : ℕ × Act). act_layout e.1) w.notes.unsure_act)) ≡ option_map_or act_bytes w.notes.unsure_act 0 =
      total-option (λ (e : ℕ × Act). act_layout e.1) w.notes.unsure_act in
      omega (arith, a, b, c) in
      record {
        told = told-more old.link.said mid.link.said sums.speaks.said gains;
        calls = λ told.
            let told_one = told-then old went.files.middle one.only.each.goes_on.told told in
            let a = one.calls told in
            let b = two.calls told_one in
            let c = sums.calls in
            let d = sums.speaks.many in
            let says : start.counts.says ≡ old.counts.says = says-of went.files.middle start two.rest.counts ∙ says-of old went.files.middle one.only.rest.counts in
            more-said (device_calls old) (device_calls mid) (5 * length files) (total blocks files) (4 * length (records ++ acts)) old.link.said mid.link.said sums.speaks.said gains
            (omega (arith, a, b, c, d, says, many, stand, filled, entries, grown, last_calls));
        disk_calls = λ told.
            let a = one.calls told in
            let b = two.calls (told-then old went.files.middle one.only.each.goes_on.told told) in
            let c = sums.disk_calls in
            omega (arith, a, b, c, many, stand, filled, entries, last_disk);
        written =
            let a = one.written in
            let b = two.written in
            let c : w.site.disk.written ≤ start.disk.written + 9 * (1 + length went.start.filters) + total record_bytes sums.adds.added
            + (option_map_or record_bytes w.notes.unsure 0 + total act_bytes w.notes.acted + option_map_or act_bytes w.notes.unsure_act 0) = sums.written in
            omega (arith, a, b, c, many, stand, behind, unsure, last_written);
        one = few-failed;
      }

held-few : (given : Given) (run most : ℕ) (answers : List OperatorAnswer) (old mid : SiteView) (last : End)
    (h : ClosesSo given run most answers old mid last ⊎ RefusesSo given run most answers old mid last) → IsFewer (held_usage h) old mid
held-few given run most answers old mid last (inl c) = went-few given run most answers old mid c.closed.went
held-few given run most answers old mid last (inr r) = go r.why
  where
    go : (why : HasRefused r.error given run most answers old mid) → IsFewer (refused_usage why) old mid
    go (inl o) = opening-few r.error given run old mid o
    go (inr l) = went-few given run most answers old mid l.went

-- ---- `run`

abbrev RunUses : RunRequest → SiteView → SiteView → Type 0
RunUses wanted old new = IsFew (opens_only []) old new ⊎ ((left : LeavesSession wanted old new) × IsFew (session_usage left.came.session) old new)

start-uses : (wanted : RunRequest) (texts : List NamedText) (old mid new : SiteView) (last : End) (answer : ℕ) → Performs (starts (start_of wanted texts)) old mid last → Tells last mid new answer → RunUses wanted old new
start-uses wanted texts old mid new last answer p tells = go p
  where
    same : mid ≡ old → RunUses wanted old new
    same e = inl (few-some old new (subst (λ (s : SiteView). SaysSome 1 s new) e (tells-some last mid new answer tells)))

    go : Performs (starts (start_of wanted texts)) old mid last → RunUses wanted old new
    go (inl h) = same h.same
    go (inr (inl h)) = same h.same
    go (inr (inr (inl h))) = same h.same
    go (inr (inr (inr (inl h)))) = inr (
      record { start = start_of wanted texts; of_run = refl; most = refl; last = last; came = record { between = mid; session = h; behind = tells-line last mid new answer tells } },
      few-then (session_usage h) old mid new (held-few h.given wanted.run wanted.most h.answers old mid last h.holds.held) (tells-some last mid new answer tells),
    )
    go (inr (inr (inr (inr h)))) = same h.same

run-uses : (wanted : RunRequest) (r : Read) (b : Bool) (old mid new : SiteView) (last : End) (answer : ℕ)
    → Performs (if b then ends [] (past BookCount) else or_end r (work_on (runs wanted))) old mid last → Tells last mid new answer → RunUses wanted old new
run-uses wanted r true old mid new last answer h tells = inl (few-some old new (work-some [] (past BookCount) old mid new last answer h tells))
run-uses wanted (Err end) false old mid new last answer h tells = inl (few-some old new (work-some [] end old mid new last answer h tells))
run-uses wanted (Ok texts) false old mid new last answer h tells = go (trees_of (trees_wanted wanted texts)) h
  where
    go : (t : Result (List Data) End) → Performs (or_end t (λ roots. starts (start_of wanted texts))) old mid last → RunUses wanted old new
    go (Err end) h = inl (few-some old new (work-some [] end old mid new last answer h tells))
    go (Ok roots) h = start-uses wanted texts old mid new last answer h tells

-- ---- all

module _ (shelf : ShelfCall) (old new : SiteView) (answer : ℕ) where
  brief-few : (asked : Option Asked) (h : Ended asked shelf old new answer) → IsBrief (work asked h.performed.read) → IsFew (opens_only []) old new
  brief-few asked h brief = few-some old new (brief-some (work asked h.performed.read) old h.between new h.last answer brief h.performed.performs h.tells)

  pub uses-ended : (asked : Option Asked) → Ended asked shelf old new answer → UsesFew asked old new
  uses-ended None h = brief-few None h (silent not_understood)
  uses-ended (Some (canonises book)) h = brief-few (Some (canonises book)) h (brief-canon book shelf.told h.performed.reads.count h.performed.read h.performed.reads.reads)
  uses-ended (Some (checks books)) h = brief-few (Some (checks books)) h (brief-check books h.performed.read)
  uses-ended (Some (runs wanted)) h = run-uses wanted h.performed.read (has_too_many (runs wanted)) old h.between new h.last answer h.performed.performs h.tells
  uses-ended (Some shows) h = few-opened 0 old new (leaves-ended (Some shows) shelf old new answer h)
  uses-ended (Some (lists_rules agent)) h = few-opened agent old new (leaves-ended (Some (lists_rules agent)) shelf old new answer h)
  uses-ended (Some (decides agent packets)) h = few-opened agent old new (leaves-ended (Some (decides agent packets)) shelf old new answer h)
  uses-ended (Some (shadows agent)) h = few-opened agent old new (leaves-ended (Some (shadows agent)) shelf old new answer h)
  uses-ended (Some (rehearses positions)) h = brief-few (Some (rehearses positions)) h (brief-rehearse positions h.performed.read)
  uses-ended (Some (audits engine filters)) h = brief-few (Some (audits engine filters)) h (brief-audit engine filters h.performed.read)
