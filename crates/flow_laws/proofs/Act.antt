-- Agreement is kept where a filter's file gains an act.
use Rattle.std.proofs.Common.{◌≡◌, ◌≢◌, inl, inr, ℕ, ◌≤◌, List, [], ◌∷◌, ◌++◌, sym, ◌∙◌, subst, ap, arith}
use Rattle.std.specs.Prelude.{Contains, Some, None}
use Rattle.std.proofs.lemmas.List.Elements.{Contains-push_cases, Contains-append_left}
use Rattle.cacao_site.specs.View.{SiteView}
use Rattle.cacao_site.specs.declared.parcel.Parcel.{Parcel}
use Rattle.cacao_site.specs.DiskCalls.{IsLeft}
use Rattle.run_records.specs.declared.record.Record.{Record}
use Rattle.run_records.specs.declared.act.Act.{Act}
use Rattle.slpf_rules_acts.specs.Acts.{AreActs}
use Rattle.slpf_rules_acts.proofs.Acts.{acts_more}
use Rattle.flow_laws.specs.Acts.{HasReply}
use Rattle.flow_laws.specs.Journals.{run_of, IsSent}
use Rattle.flow_laws.specs.Images.{puts_to, IsRecords, IsActs, IsAgent}
use Rattle.flow_laws.specs.Agree.{Agree}
use Rattle.flow_laws.specs.Good.{IsGood, IsChoice}
use Rattle.flow_laws.specs.Held.{Speech}
use Rattle.flow_laws.specs.Beats.{ActIsGained, GainsAct}
use Rattle.flow_laws.proofs.Basics.{put_at, put_at-same, put_at-other, put_at-each, same_or_not, zero_not}
use Rattle.flow_laws.proofs.OneList.{same_acts}
use Rattle.flow_laws.proofs.Shrink.{held_shrinks, same_lines}

module _ (speech : Speech) (earlier : SiteView) (early : ℕ) (later : SiteView) (late agent : ℕ) (acts : List Act) (act : Act)
    (gains : GainsAct speech earlier early later late agent acts act) where
  at_first : (choice : ℕ → List ℕ) → IsChoice later late choice → IsChoice earlier early (put_at agent gains.some.image choice)
  at_first choice each file le = put_at-each (λ (n : ℕ) (image : List ℕ). n ≤ 16 → IsLeft earlier.disk n early image) agent gains.some.image choice file
      (λ e small. subst (λ (n : ℕ). IsLeft earlier.disk n early gains.some.image) (sym e) gains.some.left)
      (λ ne small. gains.only.images file small ne (choice file) (each file small))
      le

  -- agreement with the further act
  module _ (records : List Record) (image : List ℕ) (left : IsLeft earlier.disk 0 early image) (stands : IsRecords image records)
      (all : ℕ → List Act) (here : all agent ≡ acts) (puts : List (ℕ × Parcel)) (agree : Agree records all puts) where
    more : ℕ → List Act
    more = put_at agent (acts ++ act ∷ []) all

    still : (a : ℕ) (x : Act) → Contains (all a) x → Contains (more a) x
    unfolding more
    still a x = put_at-each (λ (n : ℕ) (l : List Act). Contains (all n) x → Contains l x) agent (acts ++ act ∷ []) all a
        (λ e has. Contains-append_left acts (act ∷ []) x (subst (λ (l : List Act). Contains l x) (subst (λ (n : ℕ). all n ≡ acts) (sym e) here) has))
        (λ ne has. has)

    still_replied : (a run issue : ℕ) (P : List ℕ → Type 0) → HasReply (all a) run issue P → HasReply (more a) run issue P
    still_replied a run issue P is = record { act = is.act; has = still a is.act is.has; of_run = is.of_run; of_issue = is.of_issue; reply = is.reply }

    pub agree_act : Agree records (put_at agent (acts ++ act ∷ []) all) puts
    unfolding more
    agree_act = record {
      is_run = agree.is_run;
      acts_once = λ a. put_at-each (λ (n : ℕ) (l : List Act). IsAgent n → AreActs l) agent (acts ++ act ∷ []) all a
          (λ e is. acts_more acts act (subst AreActs here (agree.acts_once agent gains.is_agent)) gains.further.other gains.further.replied)
          (λ ne. agree.acts_once a);
      replies = λ at parcel has back. let was = agree.replies at parcel has back in record { is_agent = was.is_agent; reply = still_replied _ _ _ _ was.reply };
      commands = agree.commands;
      acts_sent = λ a x. put_at-each (λ (n : ℕ) (l : List Act). IsAgent n → Contains l x → run_of records ≡ Some x.run → IsSent records x.issue n x.command) agent (acts ++ act ∷ []) all a
          (λ e is has of. elim (Contains-push_cases acts act x has) [
            | inl old ↦ agree.acts_sent a x is (subst (λ (l : List Act). Contains l x) (sym (subst (λ (n : ℕ). all n ≡ acts) (sym e) here)) old) of
            | inr new ↦
                let sent : IsSent records act.issue agent act.command = gains.further.sent image records left stands (of ∙ ap Some (sym (ap (λ (y : Act). y.run) new))) in
                subst (λ (y : Act). IsSent records y.issue a y.command) new (subst (λ (n : ℕ). IsSent records act.issue n act.command) (sym e) sent)
          ])
          (λ ne. agree.acts_sent a x);
      answers = λ run issue moment status rule text of has.
          let was = agree.answers run issue moment status rule text of has in
          record { agent = was.agent; bytes = was.bytes; is_agent = was.is_agent; sent = was.sent; reply = still_replied _ _ _ _ was.reply };
    }

  pub good_acts : IsGood earlier early → IsGood later late
  good_acts good = record {
    each = λ choice each.
        let image = gains.some.image in
        let g = good.each (put_at agent image choice) (at_first choice each) in
        let stands : IsActs image (g.acts agent) = subst (λ (l : List ℕ). IsActs l (g.acts agent)) (put_at-same agent image choice) (g.are_acts agent gains.is_agent) in
        let one : g.acts agent ≡ acts = same_acts image (g.acts agent) acts stands (gains.before image gains.some.left) in
        let other : 0 ≢ agent = zero_not agent gains.is_agent.0 in
        let journal : IsRecords (choice 0) g.records = subst (λ (l : List ℕ). IsRecords l g.records) (put_at-other agent 0 image choice other) g.are_records in
        let left : IsLeft earlier.disk 0 early (choice 0) = gains.only.images 0 (omega arith) other (choice 0) (each 0 (omega arith)) in
        let others : (a : ℕ) → IsAgent a → a ≢ agent → IsActs (choice a) (g.acts a) = λ a is ne. subst (λ (l : List ℕ). IsActs l (g.acts a)) (put_at-other agent a image choice ne) (g.are_acts a is) in
        elim (gains.now (choice agent) (each agent gains.is_agent.1)) [
          | inl same ↦ record {
            records = g.records;
            acts = g.acts;
            are_records = journal;
            are_acts = λ a is. elim (same_or_not a agent) [
              | inl e ↦ subst (λ (n : ℕ). IsActs (choice n) (g.acts n)) (sym e) (subst (λ (l : List Act). IsActs (choice agent) l) (sym one) same)
              | inr ne ↦ others a is ne
            ];
            agree = subst (λ (p : List (ℕ × Parcel)). Agree g.records g.acts p) (sym gains.only.puts) g.agree;
          }
          | inr new ↦ record {
            records = g.records;
            acts = put_at agent (acts ++ act ∷ []) g.acts;
            are_records = journal;
            are_acts = λ a. put_at-each (λ (n : ℕ) (l : List Act). IsAgent n → IsActs (choice n) l) agent (acts ++ act ∷ []) g.acts a
                (λ e is. subst (λ (n : ℕ). IsActs (choice n) (acts ++ act ∷ [])) (sym e) new)
                (λ ne is. others a is ne);
            agree = subst (λ (p : List (ℕ × Parcel)). Agree g.records (put_at agent (acts ++ act ∷ []) g.acts) p) (sym gains.only.puts)
                (agree_act g.records (choice 0) left journal g.acts one (puts_to earlier early) g.agree);
          }
        ];
  }

pub act_is_gained : ActIsGained
act_is_gained speech first earlier early later late agent acts act gains good held = (
  good_acts speech earlier early later late agent acts act gains good,
  held_shrinks speech first earlier early later late gains.only.past (gains.only.images 0 (omega arith) (zero_not agent gains.is_agent.0)) gains.only.puts
      (same_lines speech (Some agent) None earlier early later late gains.only) held,
)
