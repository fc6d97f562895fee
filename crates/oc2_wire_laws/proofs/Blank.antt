-- The first sessions of both ends may begin on blank files.
use Rattle.std.proofs.Common.{◌≡◌, ℕ, List, [], ◌++◌, ◌∙◌, subst, ap}
use Rattle.std.specs.Prelude.{map, Contains}
use Rattle.cacao_site.specs.View.{SiteView}
use Rattle.cacao_site.specs.declared.parcel.Parcel.{Parcel}
use Rattle.run_records.specs.declared.record.Record.{Record}
use Rattle.run_records.specs.declared.act.Act.{Act}
use Rattle.slpf_rules_acts.proofs.Acts.{none_are_acts}
use Rattle.flow_laws.specs.Held.{IsRunLine, plain}
use Rattle.flow_laws.specs.Journals.{run_of}
use Rattle.flow_laws.proofs.Basics.{not_begun}
use Rattle.flow_laws.proofs.OneList.{empty_acts, empty_records, none_of_empty, same_acts}
use Rattle.oc2_wire_laws.specs.Deliveries.{AreBlank, BlankEndsAreStarts, End, at_first, sent_by}
use Rattle.oc2_wire_laws.proofs.Begins.{have_images, is_new, never_put, only_before}
use Rattle.oc2_wire_laws.proofs.Lists.{none_in}
use Rattle.oc2_wire_laws.proofs.Starts.{none_of_none}

module _ (engine filters : SiteView) (blank : AreBlank engine filters) where
  abbrev e : End
  e = at_first engine

  abbrev f : End
  f = at_first filters

  all_sent : sent_by e ++ sent_by f ≡ []
  all_sent = ap (λ (l : List Parcel). l ++ sent_by f) (only_before [] engine blank.no_commands) ∙ only_before [] filters blank.no_replies

  never_sent : (P : Type 0) (at : ℕ) (p : Parcel) → Contains {X = ℕ × Parcel} (map (λ (parcel : Parcel). (0, parcel)) (sent_by e ++ sent_by f)) (at, p) → P
  never_sent P at p has =
      none_in P (at, p) (subst (λ (l : List Parcel). Contains {X = ℕ × Parcel} (map (λ (parcel : Parcel). (0, parcel)) l) (at, p)) all_sent has)

pub blank_ends_are_starts : BlankEndsAreStarts
blank_ends_are_starts run engine filters blank = record {
  engine = is_new [] engine blank.no_commands;
  filters = is_new [] filters blank.no_replies;
  commands = λ p has. none_in _ p has;
  replies = λ p has. none_in _ p has;
  some = have_images [] [] engine filters blank.some_journal blank.some_files;
  good = λ choice is. record {
    records = [];
    acts = λ agent. [];
    are_records = empty_records (choice 0) (blank.journal (choice 0) is.journal);
    are_acts = λ agent a. empty_acts (choice agent) (blank.files agent (choice agent) a (is.filters agent a));
    agree = record {
      is_run = tt;
      acts_once = λ agent a. none_are_acts;
      replies = λ at p has back. never_sent engine filters blank _ at p has;
      commands = λ at p has command of. absurd (not_begun p.run of);
      acts_sent = λ agent act a has of. absurd (not_begun act.run of);
      answers = λ r issue moment status rule text of has. absurd (not_begun r of);
    };
  };
  held = record {
    lines = λ image records left stands bytes said line.
        let none : records ≡ [] = none_of_empty image records (blank.journal image left) stands in
        absurd (blank.silent bytes said (subst (λ (l : List Record). IsRunLine plain (run_of l) bytes) none line));
    sent = λ image records left stands at p has command of. never_put engine blank.no_commands _ at p has;
    none_while_empty = λ image left empty at p own. none_of_none _ engine engine.disk.beat at p own.has;
    was_open = λ at p own. none_of_none _ engine engine.disk.beat at p own.has;
  };
  fresh = record {
    acts = λ image left empty agent file acts act a there are has.
        let none : acts ≡ [] = same_acts file acts [] are (empty_acts file (blank.files agent file a there)) in
        none_in _ act (subst (λ (l : List Act). Contains l act) none has);
    sent = λ image left empty p has. none_in _ p (subst (λ (l : List Parcel). Contains l p) (only_before [] engine blank.no_commands) has);
  };
}
