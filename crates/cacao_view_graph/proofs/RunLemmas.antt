-- A run that was followed, and its picture.
use Rattle.std.proofs.Common.{◌≡◌, ◌∙◌, inl, inr, ℕ, suc, ◌==◌, not, true, List, [], ◌∷◌, length, map, Some, refl, ap, subst, arith}
use Rattle.serde_json.specs.Data.{Data}
use Rattle.cacao_json.specs.Tree.{data_of}
use Rattle.cacao_json.specs.declared.tree.Tree.{Tree}
use Rattle.flow_core.specs.Setups.{IsSetup}
use Rattle.flow_core.specs.Views.{View, has_begun}
use Rattle.cacao_view_graph.specs.Pictures.{IsMarkedPicture, IsPicture}
use Rattle.cacao_view_graph.specs.declared.marks.Marks.{Marks}
use Rattle.cacao_view_graph.specs.Following.{DrawsFlow, TellsCourse}
use Rattle.cacao_view_graph.specs.Notes.{AreMarks}
use Rattle.cacao_view_graph.specs.RunPictures.{DrawsEntries}
use Rattle.cacao_view_graph.specs.declared.course.Course.{Course}

not_zero : (n : ℕ) → not (suc n == 0) ≡ true
not_zero n = grind arith

-- the flow of a run has begun
pub begun_told : (items : List (List ℕ)) (flow : View) (course : Course) → TellsCourse items flow course → has_begun flow ≡ true
begun_told items flow course h =
    ap (λ (n : ℕ). not (n == 0)) (h.count ∙ ap length h.course_is.are) ∙ not_zero (length h.course_is.others)

-- the marks of the flow and its course stand in the picture
pub draws_flow : (flow : View) (course : Course) (setup : IsSetup flow.seen.given) (taken : List Tree) (marks : Marks) (lines : List (List ℕ)) → map data_of taken ≡ setup.accepted.trees
    → AreMarks flow.seen course.walked.items course.sent.items marks → IsMarkedPicture (Some marks) (map data_of taken) lines → DrawsFlow flow course lines
draws_flow flow course setup taken marks lines same marked picture = record {
  accepted = setup.accepted;
  marks = marks;
  marked = marked;
  picture = subst (λ (trees : List Data). IsMarkedPicture (Some marks) trees lines) same picture;
}

-- so the entries are drawn
pub draws_entries : (items : List (List ℕ)) (flow : View) (course : Course) (lines : List (List ℕ)) → TellsCourse items flow course → DrawsFlow flow course lines → DrawsEntries items lines
draws_entries items flow course lines h drawn = inr (record {
  records = h.records;
  seen = flow.seen;
  tells = h.tells;
  walked = course.walked.items;
  sent = course.sent.items;
  course = h.course_is;
  accepted = drawn.accepted;
  marks = drawn.marks;
  marked = drawn.marked;
  picture = drawn.picture;
})

-- where there is no entry, no playbook is drawn
pub draws_none : (items lines : List (List ℕ)) → length items ≡ 0 → IsPicture [] lines → DrawsEntries items lines
draws_none [] lines none picture = inl (refl, picture)
draws_none (item ∷ items) lines none picture = absurd (omega (arith, none))
