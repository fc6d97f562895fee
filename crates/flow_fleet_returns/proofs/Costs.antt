-- What a whole fleet uses, the opening of its files included.
use Rattle.std.proofs.Common.{◌≡◌, inl, inr, ℕ, zero, suc, ◌+◌, ◌*◌, ◌≤◌, List, [], ◌∷◌, ◌++◌, length, map, refl, sym, ◌∙◌, subst, ap, IsTrue, arith, length-append}
use Rattle.std.specs.Prelude.{IfSome, Option, None, Some, option_map, option_to_list}
use Rattle.std.specs.Option.{option_map_or}
use Rattle.std.proofs.lemmas.List.{length-map}
use Rattle.cacao_site.specs.LinkCalls.{GainsAll}
use Rattle.cacao_site.specs.RunViews.{file_of}
use Rattle.cacao_site.specs.View.{CountsView, DiskView, LinkView, SiteView, device_calls}
use Rattle.run_records.specs.Layout.{act_layout, layout}
use Rattle.run_records.specs.declared.act.Act.{Act}
use Rattle.run_records.specs.declared.record.Record.{Record}
use Rattle.flow_engine.specs.EngineView.{EngineView}
use Rattle.flow_world_steps.specs.Sums.{total}
use Rattle.flow_world_steps.specs.Written.{act_bytes, record_bytes}
use Rattle.flow_world_parts.specs.Openings.{blocks_to}
use Rattle.flow_fleet_steps.specs.Laws.{FleetWent}
use Rattle.flow_fleet_steps.specs.Openings.{OpensJournals, RefusesFilterOf, RefusesJournalAt, Runs}
use Rattle.flow_fleet_steps.specs.Openings.OpensJournals.{nothing as no_journal, and_then as one_journal}
use Rattle.flow_fleet_steps.specs.Worlds.{FleetWorld, Own, Shared}
use Rattle.flow_fleet_steps.specs.declared.error.FleetError.{FleetError}
use Rattle.flow_fleet_steps.proofs.Back.{only_back}
use Rattle.flow_fleet_sums.specs.Sums.{FleetAdds, FleetAddsUp, of_place, unsure_bytes}
use Rattle.flow_fleet_sums.proofs.Whole.{fleets_add_up}
use Rattle.flow_fleet_returns.specs.Costs.{EachFleetCloseUsesFew, EachFleetRefusalUsesFew, FleetWentFew, UsesFew, acts_as_bytes, blocks, entry_bytes, filters_to, journals_to, records_as_bytes}
use Rattle.flow_fleet_returns.proofs.CostSteps.{NotBoth, steps_not_both, steps_say}
use Rattle.flow_fleet_returns.proofs.Placed.{gained, of_all, total_append}
use Rattle.flow_fleet_returns.proofs.PrefixOpenings.{same_or_not}

-- ---- lists

total_map : {S T : Type 0} (f : T → ℕ) (g : S → T) (xs : List S) → total f (map g xs) ≡ total (λ (x : S). f (g x)) xs
total_map {S} {T} f g [] = refl
total_map {S} {T} f g (x ∷ xs) = let rest = total_map f g xs in omega (arith, rest)

total_option : {T : Type 0} (g : T → List ℕ) (o : Option T) → total entry_bytes (option_to_list (option_map g o)) ≡ option_map_or (λ (x : T). entry_bytes (g x)) o 0
total_option {T} g None = refl
total_option {T} g (Some x) = omega arith

length_one : {S T : Type 0} (g : S → T) (o : Option S) → length (option_to_list (option_map g o)) ≤ 1
length_one {S} {T} g None = omega arith
length_one {S} {T} g (Some x) = omega arith

length_none : {S T : Type 0} (g : S → T) (o : Option S) → o ≡ None → length (option_to_list (option_map g o)) ≡ 0
length_none {S} {T} g o e = ap (λ (p : Option S). length (option_to_list (option_map g p))) e

-- ---- files

length_journals : (n : ℕ) (disk : DiskView) → length (journals_to n disk) ≡ n
length_journals zero disk = refl
length_journals (suc n) disk = ap suc (length_journals n disk)

length_filters : (n : ℕ) (disk : DiskView) → length (filters_to n disk) ≡ n
length_filters zero disk = refl
length_filters (suc n) disk = ap suc (length_filters n disk)

-- files that read the same fill as many blocks
filters_same : (n : ℕ) (a b : DiskView) → ((file : ℕ) → 1 ≤ file → file ≤ n → a.reads file ≡ b.reads file) → blocks_to n a ≡ total blocks (filters_to n b)
filters_same zero a b same = refl
filters_same (suc n) a b same =
    let here : blocks (a.reads (suc n)) ≡ blocks (b.reads (suc n)) = ap blocks (same (suc n) (omega arith) (omega arith)) in
    let rest = filters_same n a b (λ file low high. same file low (omega (arith, high))) in
    omega (arith, here, rest)

one_more : (n : ℕ) (disk : DiskView) → total blocks (journals_to (n + 1) disk) ≡ blocks (disk.reads (file_of n)) + total blocks (journals_to n disk)
one_more n disk = let e : n + 1 ≡ suc n = omega arith in subst (λ (k : ℕ). total blocks (journals_to k disk) ≡ blocks (disk.reads (file_of n)) + total blocks (journals_to n disk)) (sym e) refl

said_of : (old new : SiteView) → new.link ≡ old.link → new.link.said ≡ old.link.said
said_of old new e = ap (λ (l : LinkView). l.said) e

says_of : (old new : SiteView) → new.counts ≡ old.counts → new.counts.says ≡ old.counts.says
says_of old new e = ap (λ (c : CountsView). c.says) e

-- What so many journals took, which read as at the start. Nothing was said.
record JournalsTook (start site : SiteView) (n : ℕ) : Type 0 where
  pub told : site.disk.told ≡ start.disk.told
  pub reads : (file : ℕ) → site.disk.reads file ≡ start.disk.reads file
  pub calls : IsTrue start.disk.told → site.disk.calls ≤ start.disk.calls + 3 * n + total blocks (journals_to n start.disk)
  pub written : site.disk.written ≤ start.disk.written
  pub says : site.counts.says ≡ start.counts.says
  pub said : site.link.said ≡ start.link.said

journals_took : (runs : Runs) (start : SiteView) (n : ℕ) (site : SiteView) (engines : List EngineView) → OpensJournals runs start n site engines → JournalsTook start site n
journals_took runs start n site engines no_journal = record { told = refl; reads = λ file. refl; calls = λ told. omega arith; written = omega arith; says = refl; said = refl }
journals_took runs start many site engines (one_journal {n} {old} {new} {before} run given v was there is) =
    let rest = journals_took runs start n old before was in
    let back = only_back n _ old new is.opens.only in
    let reads : (file : ℕ) → new.disk.reads file ≡ start.disk.reads file = λ file. elim (same_or_not file (file_of n)) [
      | inl e ↦ subst (λ (f : ℕ). new.disk.reads f ≡ start.disk.reads f) (sym e) (is.reads ∙ rest.reads (file_of n))
      | inr ne ↦ (back.others file ne).reads ∙ rest.reads file
    ] in
    record {
      told = back.each.goes_on.told ∙ rest.told;
      reads = reads;
      calls = λ told.
          let few = rest.calls told in
          let here = is.opens.calls (subst IsTrue (sym rest.told) told) in
          let same : blocks (new.disk.reads (file_of n)) ≡ blocks (start.disk.reads (file_of n)) = ap blocks (reads (file_of n)) in
          let more = one_more n start.disk in
          omega (arith, few, here, same, more);
      written = let one = rest.written in let two = is.opens.written in omega (arith, one, two);
      says = says_of old new back.rest.counts ∙ rest.says;
      said = said_of old new back.rest.link ∙ rest.said;
    }

-- ---- lines

none_more : (x y n b e : ℕ) (p q : Option (List (ℕ × List ℕ))) → q ≡ p → y ≤ x + 5 + n + b + e
    → IfSome p (λ (before : List (ℕ × List ℕ)). IfSome q (λ (after : List (ℕ × List ℕ)). y + length before ≤ x + length after + 5 + n + b + e))
none_more x y n b e None q same le = tt
none_more x y n b e (Some p) None same le = tt
none_more x y n b e (Some p) (Some q) same le = let is : q ≡ p = cc in let long = ap length is in omega (arith, le, long)

more_said : (x y n b e : ℕ) (p q : Option (List (ℕ × List ℕ))) (said : List (ℕ × List ℕ)) → GainsAll p said q → y ≤ x + length said + 5 + n + b + e
    → IfSome p (λ (before : List (ℕ × List ℕ)). IfSome q (λ (after : List (ℕ × List ℕ)). y + length before ≤ x + length after + 5 + n + b + e))
more_said x y n b e None q said h le = tt
more_said x y n b e (Some p) None said h le = tt
more_said x y n b e (Some p) (Some q) said h le = let long : length q ≡ length p + length said = ap length h ∙ length-append p said in omega (arith, le, long)

-- ---- an opening that was refused

journal_few : (error : FleetError) (runs : Runs) (old new : SiteView) (is : RefusesJournalAt error runs old new) → UsesFew (new.disk.reads (file_of is.place) ∷ journals_to is.place old.disk) [] [] old new
journal_few error runs old new is =
    let took = journals_took runs old is.place is.middle is.engines is.before in
    let opens = is.refuses.opens in
    let long = length_journals is.place old.disk in
    let many : length (new.disk.reads (file_of is.place) ∷ journals_to is.place old.disk) ≡ is.place + 1 = omega (arith, long) in
    let says : new.counts.says ≡ old.counts.says = says_of is.middle new opens.only.rest.counts ∙ took.says in
    record {
      disk_calls = λ told.
          let few = took.calls told in
          let here = opens.calls (subst IsTrue (sym took.told) told) in
          omega (arith, few, here, many);
      calls = λ told.
          let few = took.calls told in
          let here = opens.calls (subst IsTrue (sym took.told) told) in
          none_more (device_calls old) (device_calls new) (5 * length (new.disk.reads (file_of is.place) ∷ journals_to is.place old.disk)) (total blocks (new.disk.reads (file_of is.place) ∷ journals_to is.place old.disk)) (4 * 0)
          old.link.said new.link.said (said_of is.middle new opens.only.rest.link ∙ took.said) (omega (arith, few, here, many, says));
      written = let one = took.written in let two = opens.written in omega (arith, one, two);
      one = omega arith;
    }

filter_few : (error : FleetError) (runs : Runs) (old new : SiteView) (is : RefusesFilterOf error runs old new) → UsesFew (new.disk.reads (is.refuses.agent + 1) ∷ (journals_to (length runs) old.disk ++ filters_to is.refuses.agent old.disk)) [] [] old new
filter_few error runs old new is =
    let took = journals_took runs old (length runs) is.middle is.engines is.journals in
    let n = is.refuses.agent in
    let mid = is.refuses.middle in
    let two = is.refuses.before in
    let opens = is.refuses.refuses.opens in
    let files : List (List ℕ) = new.disk.reads (n + 1) ∷ (journals_to (length runs) old.disk ++ filters_to n old.disk) in
    let l = length_journals (length runs) old.disk in
    let k = length_filters n old.disk in
    let both = length-append (journals_to (length runs) old.disk) (filters_to n old.disk) in
    let many : length files ≡ length runs + n + 1 = omega (arith, l, k, both) in
    let same = filters_same n mid.disk old.disk (λ file low high. two.reads file low high ∙ took.reads file) in
    let sum = total_append blocks (journals_to (length runs) old.disk) (filters_to n old.disk) in
    let filled : total blocks files ≡ blocks (new.disk.reads (n + 1)) + (total blocks (journals_to (length runs) old.disk) + blocks_to n mid.disk) = omega (arith, same, sum) in
    let says : new.counts.says ≡ old.counts.says = says_of mid new opens.only.rest.counts ∙ says_of is.middle mid two.rest.counts ∙ took.says in
    record {
      disk_calls = λ told.
          let told_one = subst IsTrue (sym took.told) told in
          let few = took.calls told in
          let then_ = two.calls told_one in
          let here = opens.calls (subst IsTrue (sym two.goes_on.told) told_one) in
          omega (arith, few, then_, here, many, filled);
      calls = λ told.
          let told_one = subst IsTrue (sym took.told) told in
          let few = took.calls told in
          let then_ = two.calls told_one in
          let here = opens.calls (subst IsTrue (sym two.goes_on.told) told_one) in
          none_more (device_calls old) (device_calls new) (5 * length files) (total blocks files) (4 * 0) old.link.said new.link.said
          (said_of mid new opens.only.rest.link ∙ said_of is.middle mid two.rest.link ∙ took.said) (omega (arith, few, then_, here, many, filled, says));
      written = let a = took.written in let b = two.written in let c = opens.written in omega (arith, a, b, c);
      one = omega arith;
    }

-- ---- a fleet behind its openings

module _ (runs : Runs) (most : ℕ) (old new : SiteView) (went : FleetWent runs most old new) where
  abbrev a : FleetWorld
  a = went.start

  abbrev b : FleetWorld
  b = went.to

  sums : FleetAddsUp a b runs most
  sums = fleets_add_up a b runs most went.begins went.steps

  few_failed : NotBoth b → length (option_to_list (option_map layout (b.own b.place).unsure) ++ option_to_list (option_map (λ (e : ℕ × Act). act_layout e.1) b.notes.unsure_act)) ≤ 1
  few_failed not_both =
      let long = length-append (option_to_list (option_map layout (b.own b.place).unsure)) (option_to_list (option_map (λ (e : ℕ × Act). act_layout e.1) b.notes.unsure_act)) in
      elim not_both [
        | inl e ↦ let x = length_none layout (b.own b.place).unsure e in let y = length_one (λ (e : ℕ × Act). act_layout e.1) b.notes.unsure_act in omega (arith, long, x, y)
        | inr e ↦ let x = length_one layout (b.own b.place).unsure in let y = length_none (λ (e : ℕ × Act). act_layout e.1) b.notes.unsure_act e in omega (arith, long, x, y)
      ]

  -- with what was added, as `adds` tells
  few_of : (adds : FleetAdds a b) → UsesFew (journals_to (length runs) old.disk ++ filters_to 16 old.disk) (records_as_bytes adds.added ++ acts_as_bytes b.notes.acted)
      (option_to_list (option_map layout (b.own b.place).unsure) ++ option_to_list (option_map (λ (e : ℕ × Act). act_layout e.1) b.notes.unsure_act)) old new
  few_of adds =
      let took = journals_took runs old (length runs) went.files.middle a.engines went.files.journals in
      let two = went.files.others in
      let files : List (List ℕ) = journals_to (length runs) old.disk ++ filters_to 16 old.disk in
      let l = length_journals (length runs) old.disk in
      let k = length_filters 16 old.disk in
      let both = length-append (journals_to (length runs) old.disk) (filters_to 16 old.disk) in
      let many : length files ≡ length runs + 16 = omega (arith, l, k, both) in
      let same = filters_same 16 a.site.disk old.disk (λ file low high. two.reads file low high ∙ took.reads file) in
      let sum = total_append blocks (journals_to (length runs) old.disk) (filters_to 16 old.disk) in
      let filled : total blocks files ≡ total blocks (journals_to (length runs) old.disk) + blocks_to 16 a.site.disk = omega (arith, same, sum) in
      let records = records_as_bytes adds.added in
      let acts = acts_as_bytes b.notes.acted in
      let entries : length (records ++ acts) ≡ length adds.added + length b.notes.acted =
      let x = length-map adds.added (λ (e : ℕ × Record). layout e.1) in let y = length-map b.notes.acted (λ (e : ℕ × Act). act_layout e.1) in let z = length-append records acts in omega (arith, x, y, z) in
      let lines = steps_say a b went.steps in
      let said_start : a.site.link.said ≡ old.link.said = said_of went.files.middle a.site two.rest.link ∙ took.said in
      let gains : GainsAll old.link.said lines.said new.link.said =
      subst (λ (s : SiteView). GainsAll old.link.said lines.said s.link.said) went.to_is (subst (λ (o : Option (List (ℕ × List ℕ))). GainsAll o lines.said b.site.link.said) said_start lines.says) in
      let last_calls : device_calls b.site ≡ device_calls new = ap device_calls went.to_is in
      let last_disk : b.site.disk.calls ≡ new.disk.calls = ap (λ (s : SiteView). s.disk.calls) went.to_is in
      let last_written : b.site.disk.written ≡ new.disk.written = ap (λ (s : SiteView). s.disk.written) went.to_is in
      let says : a.site.counts.says ≡ old.counts.says = says_of went.files.middle a.site two.rest.counts ∙ took.says in
      let grown = adds.all in
      let spoken = lines.many in
      record {
        disk_calls = λ told.
            let few = took.calls told in
            let then_ = two.calls (subst IsTrue (sym took.told) told) in
            let calls = sums.disk_calls in
            let same_added = sums.adds.all in
            omega (arith, few, then_, calls, same_added, grown, many, filled, entries, last_disk);
        calls = λ told.
            let told_one = subst IsTrue (sym took.told) told in
            let few = took.calls told in
            let then_ = two.calls told_one in
            let calls = sums.calls in
            let same_added = sums.adds.all in
            more_said (device_calls old) (device_calls new) (5 * length files) (total blocks files) (4 * length (records ++ acts)) old.link.said new.link.said lines.said gains
            (omega (arith, few, then_, calls, same_added, grown, spoken, says, many, filled, entries, last_calls));
        written =
            let x = took.written in
            let y = two.written in
            let written = sums.written in
            let gained_all = gained record_bytes 0 adds.added a.engines b.engines adds.many (λ j v w there here. (adds.each j v w there here).is ∙ ap (λ (n : ℕ). v.history.records ++ of_place n adds.added) (omega arith)) in
            let behind : total entry_bytes (records ++ acts) ≡ of_all record_bytes adds.added + total act_bytes b.notes.acted =
            let p = total_append entry_bytes records acts in
            let q : total entry_bytes records ≡ of_all record_bytes adds.added = total_map entry_bytes (λ (e : ℕ × Record). layout e.1) adds.added in
            let r : total entry_bytes acts ≡ total act_bytes b.notes.acted = total_map entry_bytes (λ (e : ℕ × Act). act_layout e.1) b.notes.acted in
            omega (arith, p, q, r) in
            let unsure : total entry_bytes (option_to_list (option_map layout (b.own b.place).unsure) ++ option_to_list (option_map (λ (e : ℕ × Act). act_layout e.1) b.notes.unsure_act)) ≡ unsure_bytes b =
            let p = total_append entry_bytes (option_to_list (option_map layout (b.own b.place).unsure)) (option_to_list (option_map (λ (e : ℕ × Act). act_layout e.1) b.notes.unsure_act)) in
            let q : total entry_bytes (option_to_list (option_map layout (b.own b.place).unsure)) ≡ option_map_or record_bytes (b.own b.place).unsure 0 = total_option layout (b.own b.place).unsure in
            let r : total entry_bytes (option_to_list (option_map (λ (e : ℕ × Act). act_layout e.1) b.notes.unsure_act)) ≡ option_map_or act_bytes b.notes.unsure_act 0 = total_option (λ (e : ℕ × Act). act_layout e.1) b.notes.unsure_act in
            omega (arith, p, q, r) in
            omega (arith, x, y, written, gained_all, behind, unsure, many, last_written);
        one = few_failed (steps_not_both a b (record { own = λ k. ap (λ (o : ℕ → Own). (o k).unsure) went.begins.own; act = ap (λ (n : Shared). n.unsure_act) went.begins.notes }) went.steps);
      }

  pub went_few : FleetWentFew runs most old new went
  went_few = record { adds = sums.adds; few = few_of sums.adds }

-- ---- the laws

pub each_fleet_close_uses_few : EachFleetCloseUsesFew
each_fleet_close_uses_few close runs most old new closed = went_few runs most old new closed.went

pub each_fleet_refusal_uses_few : EachFleetRefusalUsesFew
each_fleet_refusal_uses_few error runs most old new (inl (inl is)) = journal_few error runs old new is
each_fleet_refusal_uses_few error runs most old new (inl (inr is)) = filter_few error runs old new is
each_fleet_refusal_uses_few error runs most old new (inr is) = went_few runs most old new is.went
