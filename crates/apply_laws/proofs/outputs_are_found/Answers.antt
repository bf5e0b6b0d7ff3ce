use Rattle.std.specs.Prelude.{IsTrue}
use Rattle.model_tree.specs.Tree.{relabel, relabel_all}
use Rattle.model_sttr.specs.Transducer.{run, Gives, GivesAt}
use Rattle.model_sttr.specs.Cuts.{IsCutAt}
use Rattle.apply_laws.specs.Meant.{GivesCut}
use Rattle.apply_laws.proofs.Calls.{of_part, of_build, of_more_terms, of_state}
use Rattle.apply_laws.proofs.Loads.{within, is_too_much}
use Rattle.apply_laws.proofs.Leads.{leads_too_much}
use Rattle.apply_laws.proofs.outputs_are_found.Goals as goal

pub returns : goal.returns
returns g c = record {
  parts = λ a f ts l p ps first rest all h k i. of_part a.label a.order a.keeps (λ l n. IsTrue (a.outside l n)) a.total a.same (λ h j k. IsCutAt f h j (relabel_all a.label ts) k) (λ h j u. GivesAt f h j (relabel_all a.label ts) u) l p ps first rest h k all i;
  nodes = λ a f ts l c m ps parts found h i. of_build a.label a.order a.keeps (λ l n. IsTrue (a.outside l n)) a.total a.same (λ h j k. IsCutAt f h j (relabel_all a.label ts) k) (λ h j u. GivesAt f h j (relabel_all a.label ts) u) l c m ps parts h found i;
  more = λ a f ts l ps p xs ys m n h k. of_more_terms a.label a.order a.keeps (λ l n. IsTrue (a.outside l n)) a.total a.same (λ h j k. IsCutAt f h j (relabel_all a.label ts) k) (λ h j u. GivesAt f h j (relabel_all a.label ts) u) l ps p xs ys m n h k;
  states = λ a f ts q c v found h. of_state a.label a.order a.keeps (λ l n. IsTrue (a.outside l n)) a.total a.same f q c v ts found h;
  no_load = λ a f t q xs h few light shallow load much. within a.label a.order a.keeps (λ l n. IsTrue (a.outside l n)) a.total a.same (GivesCut a.label f (run q) t) (Gives f (run q) (relabel a.label t)) xs h few light shallow load (is_too_much (Gives f (run q)) (relabel a.label t) load much);
  reached = leads_too_much;
}
