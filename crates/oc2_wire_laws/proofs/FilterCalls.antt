-- A filter's file gained an act, a reply was put, or nothing, at the filters' end.
use Rattle.std.proofs.Common.{◌≡◌, ◌≢◌, ◌⊎◌, inl, inr, ℕ, List, [], ◌∷◌, ◌++◌, sym, ◌∙◌, subst, ap}
use Rattle.std.specs.Prelude.{drop, Contains}
use Rattle.std.proofs.lemmas.List.{append_assoc}
use Rattle.std.proofs.lemmas.List.Elements.{All-contains, Contains-append_left, Contains-push_cases}
use Rattle.cacao_site.specs.DiskCalls.{IsLeft}
use Rattle.cacao_site.specs.View.{SiteView}
use Rattle.cacao_site.specs.declared.parcel.Parcel.{Parcel}
use Rattle.run_records.specs.declared.act.Act.{Act}
use Rattle.flow_laws.specs.Acts.{HasReply, IsBytes}
use Rattle.flow_laws.specs.Images.{EachFilter, IsActs, IsAgent, puts_of, puts_to}
use Rattle.flow_laws.proofs.Basics.{in_drop_more, same_entry, same_or_not}
use Rattle.flow_laws.proofs.OneList.{same_acts}
use Rattle.oc2_wire_laws.specs.Ends.{AreActsFrom, FiltersKeep, HasGotCommand, IsActedEverywhere}
use Rattle.oc2_wire_laws.specs.FilterBeats.{ActIsKept, FilterGains, ReplyIsKept, ShrunkAreKept}
use Rattle.oc2_wire_laws.proofs.Lists.{all_by}

pub shrunk_are_kept : ShrunkAreKept
shrunk_are_kept start got earlier early later late is keeps = record {
  files = λ agent a image left. keeps.files agent a image (is.images agent a image left);
  replies = λ at p has back.
      let acted = keeps.replies at p (subst (λ (l : List (ℕ × Parcel)). Contains l (at, p)) is.puts has) back in
      record { is_agent = acted.is_agent; each = λ image left. acted.each image (is.images p.agent acted.is_agent image left) };
  only_replies = λ at p has. keeps.only_replies at p (subst (λ (l : List (ℕ × Parcel)). Contains (drop (puts_of start) l) (at, p)) is.puts has);
}

pub reply_is_kept : ReplyIsKept
reply_is_kept parcel start got earlier early later late is keeps = record {
  files = λ agent a image left. keeps.files agent a image (is.images agent a image left);
  replies = λ at p has back. elim (Contains-push_cases (puts_to earlier early) (late, parcel) (at, p) (subst (λ (l : List (ℕ × Parcel)). Contains l (at, p)) is.puts has)) [
    | inl old ↦ later_acted p (keeps.replies at p old back)
    | inr new ↦ subst (λ (q : Parcel). IsActedEverywhere later late q) (same_entry new) (later_acted parcel is.acted)
  ];
  only_replies = λ at p has. elim (in_drop_more (puts_of start) (puts_to earlier early) (late, parcel) (at, p)
      (subst (λ (l : List (ℕ × Parcel)). Contains (drop (puts_of start) l) (at, p)) is.puts has)) [
        | inl old ↦ keeps.only_replies at p old
        | inr new ↦ ap (λ (q : Parcel). q.back) (sym (same_entry new)) ∙ is.back
      ];
}
  where
    later_acted : (p : Parcel) → IsActedEverywhere earlier early p → IsActedEverywhere later late p
    later_acted p acted = record { is_agent = acted.is_agent; each = λ image left. acted.each image (is.images p.agent acted.is_agent image left) }

module _ (agent : ℕ) (acts : List Act) (act : Act) (start : SiteView) (got : List Parcel) (earlier : SiteView) (early : ℕ) (later : SiteView) (late : ℕ)
    (gains : FilterGains got agent acts act earlier early later late) (keeps : FiltersKeep start got earlier early) where
  was : IsActs gains.some.image acts
  was = gains.before gains.some.image gains.some.left

  was_from : AreActsFrom start agent got acts
  was_from =
      let s = keeps.files agent gains.is_agent gains.some.image gains.some.left in
      subst (λ (l : List Act). AreActsFrom start agent got l) (same_acts gains.some.image s.acts acts s.are was) s.so

  more_from : AreActsFrom start agent got (acts ++ act ∷ [])
  more_from =
      let on = was_from.go_on in
      record {
        are_acts = gains.are_acts;
        go_on = record {
          image = on.image;
          left = on.left;
          before = on.before;
          were = on.were;
          added = on.added ++ act ∷ [];
          is = ap (λ (l : List Act). l ++ act ∷ []) on.is ∙ append_assoc on.before on.added (act ∷ []);
          commands = all_by (HasGotCommand agent got) (on.added ++ act ∷ []) (λ x has. elim (Contains-push_cases on.added act x has) [
            | inl old ↦ All-contains (HasGotCommand agent got) on.added x on.commands old
            | inr same ↦ subst (λ (y : Act). HasGotCommand agent got y) same gains.command
          ]);
        };
      }

  own_file : EachFilter later late agent (AreActsFrom start agent got)
  own_file image left = elim (gains.now image left) [
    | inl still ↦ record { acts = acts; are = still; so = was_from }
    | inr new ↦ record { acts = acts ++ act ∷ []; are = new; so = more_from }
  ]

  file_of : (other : ℕ) → IsAgent other → (other ≡ agent) ⊎ (other ≢ agent) → EachFilter later late other (AreActsFrom start other got)
  file_of other a (inl same) = subst (λ (n : ℕ). EachFilter later late n (AreActsFrom start n got)) (sym same) own_file
  file_of other a (inr ne) = λ image left. keeps.files other a image (gains.images other a ne image left)

  reply_more : (run issue : ℕ) (P : List ℕ → Type 0) → HasReply acts run issue P → HasReply (acts ++ act ∷ []) run issue P
  reply_more run issue P h = record { act = h.act; has = Contains-append_left acts (act ∷ []) h.act h.has; of_run = h.of_run; of_issue = h.of_issue; reply = h.reply }

  acted_of : (p : Parcel) → IsActedEverywhere earlier early p → (p.agent ≡ agent) ⊎ (p.agent ≢ agent) → EachFilter later late p.agent (λ acts. HasReply acts p.run p.issue (IsBytes p.bytes))
  acted_of p acted (inr ne) = λ image left. acted.each image (gains.images p.agent acted.is_agent ne image left)
  acted_of p acted (inl same) = λ image left.
      let here : IsLeft earlier.disk p.agent early gains.some.image = subst (λ (n : ℕ). IsLeft earlier.disk n early gains.some.image) (sym same) gains.some.left in
      let s = acted.each gains.some.image here in
      let reply : HasReply acts p.run p.issue (IsBytes p.bytes) = subst (λ (l : List Act). HasReply l p.run p.issue (IsBytes p.bytes)) (same_acts gains.some.image s.acts acts s.are was) s.so in
      elim (gains.now image (subst (λ (n : ℕ). IsLeft later.disk n late image) same left)) [
        | inl still ↦ record { acts = acts; are = still; so = reply }
        | inr new ↦ record { acts = acts ++ act ∷ []; are = new; so = reply_more p.run p.issue (IsBytes p.bytes) reply }
      ]

pub act_is_kept : ActIsKept
act_is_kept agent acts act start got earlier early later late gains keeps = record {
  files = λ other a. file_of agent acts act start got earlier early later late gains keeps other a (same_or_not other agent);
  replies = λ at p has back.
      let acted = keeps.replies at p (subst (λ (l : List (ℕ × Parcel)). Contains l (at, p)) gains.puts has) back in
      record { is_agent = acted.is_agent; each = acted_of agent acts act start got earlier early later late gains keeps p acted (same_or_not p.agent agent) };
  only_replies = λ at p has. keeps.only_replies at p (subst (λ (l : List (ℕ × Parcel)). Contains (drop (puts_of start) l) (at, p)) gains.puts has);
}
