-- A session may begin where another ended, or was cut off.
use Rattle.std.proofs.Common.{◌≡◌, ℕ, suc, ◌≤◌, List, [], ◌∷◌, sym, subst, arith, length, true, false, nat_le, Bool, if◌then◌else◌}
use Rattle.std.specs.Prelude.{drop, Contains, Some}
use Rattle.std.proofs.lemmas.List.{drop_all}
use Rattle.cacao_site.specs.View.{SiteView}
use Rattle.cacao_site.specs.declared.parcel.Parcel.{Parcel}
use Rattle.cacao_site.specs.DiskCalls.{IsLeft}
use Rattle.run_records.specs.declared.record.Record.{Record}
use Rattle.run_records.specs.declared.act.Act.{Act}
use Rattle.flow_laws.specs.Journals.{run_of}
use Rattle.flow_laws.specs.Images.{up_to, told_list, puts_to, puts_of, IsActs}
use Rattle.flow_laws.specs.Agree.{CommandsAreSent, RepliesAreOfActs}
use Rattle.flow_laws.specs.Good.{IsChoice}
use Rattle.flow_laws.specs.Held.{Speech, IsOwnPut, IsRunLine}
use Rattle.flow_laws.specs.Sessions.{AreCopies, GoesOnAfterACrash, BeginsAnew}
use Rattle.flow_laws.proofs.Basics.{put_at, put_at-other, put_at-each, positive, not_zero, not_begun}
use Rattle.flow_laws.proofs.OneList.{empty_records, none_of_empty}

-- ---- nothing was put yet

with_or_without : {T : Type 0} (b : Bool) (x : T) (rest : List T) (n : ℕ) → length rest ≤ n → length (if b then x ∷ rest else rest) ≤ suc n
with_or_without true x rest n le = omega (arith, le)
with_or_without false x rest n le = omega (arith, le)

-- a part of a list has no more than the list
length_filter : {T : Type 0} (beat : ℕ) (entries : List (ℕ × T)) → length (up_to beat entries) ≤ length entries
length_filter beat [] = omega arith
length_filter beat (e ∷ entries) = with_or_without (nat_le e.0 beat) e (up_to beat entries) (length entries) (length_filter beat entries)

pub none_put : (speech : Speech) (site : SiteView) (beat at : ℕ) (parcel : Parcel) → IsOwnPut speech site (puts_of site) beat at parcel → ⊥
none_put speech site beat at parcel own =
    let all : drop (puts_of site) (puts_to site beat) ≡ [] = drop_all (puts_of site) (puts_to site beat) (length_filter beat (told_list site.link.puts)) in
    let none : Contains [] (at, parcel) = subst (λ (l : List (ℕ × Parcel)). Contains l (at, parcel)) all own.has in
    absurd (omega (arith, none.1))

-- ---- copies agree where what they are copies of does

replies_copied : (old : SiteView) (beat : ℕ) (new : SiteView) (acts : ℕ → List Act) → AreCopies old beat new → RepliesAreOfActs acts (puts_to old beat)
    → RepliesAreOfActs acts (puts_to new new.disk.beat)
replies_copied old beat new acts copies was at parcel has back = let put = copies at parcel has in was put.0 parcel put.1 back

commands_copied : (old : SiteView) (beat : ℕ) (new : SiteView) (records : List Record) → AreCopies old beat new → CommandsAreSent records (puts_to old beat)
    → CommandsAreSent records (puts_to new new.disk.beat)
commands_copied old beat new records copies was at parcel has command of = let put = copies at parcel has in was put.0 parcel put.1 command of

-- ---- after a crash

pub goes_on_after_a_crash : GoesOnAfterACrash
goes_on_after_a_crash speech old new first beat is good held = (
  record {
    good = record {
      each = λ choice each.
          let g = good.each choice (λ file le. is.images file le (choice file) (each file le)) in
          let agree = g.agree in
          record {
            records = g.records;
            acts = g.acts;
            are_records = g.are_records;
            are_acts = g.are_acts;
            agree = record {
              is_run = agree.is_run;
              acts_once = agree.acts_once;
              replies = replies_copied old beat new g.acts is.puts agree.replies;
              commands = commands_copied old beat new g.records is.puts agree.commands;
              acts_sent = agree.acts_sent;
              answers = agree.answers;
            };
          };
    };
    held = record {
      lines = λ image records left stands bytes said line. held.lines image records (is.images 0 (omega arith) image left) stands bytes (is.said bytes said) line;
      sent = λ image records left stands. commands_copied old beat new records is.puts (held.sent image records (is.images 0 (omega arith) image left) stands);
      none_while_empty = λ image left empty at parcel own. none_put speech new new.disk.beat at parcel own;
      was_open = λ at parcel own. absurd (none_put speech new new.disk.beat at parcel own);
    };
  },
  λ run fresh. record {
    unused = λ image left empty.
        let was = fresh.unused image (is.images 0 (omega arith) image left) empty in
        record {
          acts = λ agent file acts act is_agent left_file. was.acts agent file acts act is_agent (is.images agent is_agent.1 file left_file);
          puts = λ at parcel has. let put = is.puts at parcel has in was.puts put.0 parcel put.1;
        };
  },
)

-- ---- a new run

-- records of an empty journal have no number
pub no_run : (P : Type 0) (records : List Record) (run : ℕ) → records ≡ [] → run_of records ≡ Some run → P
no_run P records run none of = absurd (not_begun run (subst (λ (l : List Record). run_of l ≡ Some run) none of))

pub begins_anew : BeginsAnew
begins_anew speech old new beat is good = (
  record {
    good = record {
      each = λ choice each.
          let image = is.some.image in
          let at_first : IsChoice old beat (put_at 0 image choice) = λ file le. put_at-each (λ (n : ℕ) (l : List ℕ). n ≤ 16 → IsLeft old.disk n beat l) 0 image choice file
          (λ e small. subst (λ (n : ℕ). IsLeft old.disk n beat image) (sym e) is.some.left)
          (λ ne small. is.images file (positive file ne) small (choice file) (each file small))
          le in
          let g = good.each (put_at 0 image choice) at_first in
          record {
            records = [];
            acts = g.acts;
            are_records = empty_records (choice 0) (is.empty (choice 0) (each 0 (omega arith)));
            are_acts = λ agent a. subst (λ (l : List ℕ). IsActs l (g.acts agent)) (put_at-other 0 agent image choice (not_zero agent a.0)) (g.are_acts agent a);
            agree = record {
              is_run = tt;
              acts_once = g.agree.acts_once;
              replies = replies_copied old beat new g.acts is.puts g.agree.replies;
              commands = λ at parcel has command of. absurd (not_begun parcel.run of);
              acts_sent = λ agent act is_agent has of. absurd (not_begun act.run of);
              answers = λ run issue moment status rule text of has. absurd (not_begun run of);
            };
          };
    };
    held = record {
      lines = λ image records left stands bytes said line.
          let none : records ≡ [] = none_of_empty image records (is.empty image left) stands in
          absurd (is.silent bytes said (subst (λ (l : List Record). IsRunLine speech (run_of l) bytes) none line));
      sent = λ image records left stands at parcel has command of. no_run _ records parcel.run (none_of_empty image records (is.empty image left) stands) of;
      none_while_empty = λ image left empty at parcel own. none_put speech new new.disk.beat at parcel own;
      was_open = λ at parcel own. absurd (none_put speech new new.disk.beat at parcel own);
    };
  },
  λ run unused. record { unused = λ image left empty. unused },
)
