-- The first session may begin on blank files.
use Rattle.std.proofs.Common.{◌≡◌, ℕ, List, [], subst, ap, arith}
use Rattle.std.specs.Prelude.{Contains}
use Rattle.cacao_site.specs.View.{SiteView}
use Rattle.cacao_site.specs.declared.parcel.Parcel.{Parcel}
use Rattle.run_records.specs.declared.record.Record.{Record}
use Rattle.run_records.specs.declared.act.Act.{Act}
use Rattle.slpf_rules_acts.proofs.Acts.{none_are_acts}
use Rattle.flow_laws.specs.Journals.{run_of}
use Rattle.flow_laws.specs.Images.{up_to, puts_to}
use Rattle.flow_laws.specs.Held.{Speech, IsRunLine}
use Rattle.flow_laws.specs.Sessions.{IsBlank, BeginsOnBlankFiles}
use Rattle.flow_laws.proofs.Basics.{not_begun}
use Rattle.flow_laws.proofs.OneList.{empty_records, empty_acts, none_of_empty, same_acts}
use Rattle.flow_laws.proofs.Again.{none_put, no_run}

-- nothing is in the empty list
none_in : {T : Type 0} (x : T) → Contains [] x → ⊥
none_in x has = absurd (omega (arith, has.1))

-- on a blank site no parcel was put
blank_puts : (speech : Speech) (site : SiteView) → IsBlank speech site → puts_to site site.disk.beat ≡ []
blank_puts speech site blank = ap (λ (l : List (ℕ × Parcel)). up_to site.disk.beat l) blank.none_put

never_put : (speech : Speech) (site : SiteView) → IsBlank speech site → (at : ℕ) (parcel : Parcel) → Contains (puts_to site site.disk.beat) (at, parcel) → ⊥
never_put speech site blank at parcel has =
    let e : ℕ × Parcel = (at, parcel) in
    absurd (none_in e (subst (λ (l : List (ℕ × Parcel)). Contains l e) (blank_puts speech site blank) has))

pub begins_on_blank_files : BeginsOnBlankFiles
begins_on_blank_files speech site blank = (
  record {
    good = record {
      each = λ choice each. record {
        records = [];
        acts = λ agent. [];
        are_records = empty_records (choice 0) (blank.empty 0 (choice 0) (omega arith) (each 0 (omega arith)));
        are_acts = λ agent is. empty_acts (choice agent) (blank.empty agent (choice agent) is.1 (each agent is.1));
        agree = record {
          is_run = tt;
          acts_once = λ agent is. none_are_acts;
          replies = λ at parcel has back. absurd (never_put speech site blank at parcel has);
          commands = λ at parcel has command of. absurd (not_begun parcel.run of);
          acts_sent = λ agent act is has of. absurd (not_begun act.run of);
          answers = λ run issue moment status rule text of has. absurd (not_begun run of);
        };
      };
    };
    held = record {
      lines = λ image records left stands bytes said line.
          let none : records ≡ [] = none_of_empty image records (blank.empty 0 image (omega arith) left) stands in
          absurd (blank.silent bytes said (subst (λ (l : List Record). IsRunLine speech (run_of l) bytes) none line));
      sent = λ image records left stands at parcel has command of. no_run _ records parcel.run (none_of_empty image records (blank.empty 0 image (omega arith) left) stands) of;
      none_while_empty = λ image left empty at parcel own. none_put speech site site.disk.beat at parcel own;
      was_open = λ at parcel own. absurd (none_put speech site site.disk.beat at parcel own);
    };
  },
  λ run. record {
    unused = λ image left empty. record {
      acts = λ agent file acts act is_agent left_file are has.
          let none : acts ≡ [] = same_acts file acts [] are (empty_acts file (blank.empty agent file is_agent.1 left_file)) in
          absurd (none_in act (subst (λ (l : List Act). Contains l act) none has));
      puts = λ at parcel has. absurd (never_put speech site blank at parcel has);
    };
  },
)
