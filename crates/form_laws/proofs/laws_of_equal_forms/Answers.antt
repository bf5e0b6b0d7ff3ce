use Rattle.form_laws.proofs.Putting.{put_same}
use Rattle.form_laws.proofs.Outside.{outside_in_both}
use Rattle.form_laws.proofs.laws_of_equal_forms.Goals as goal

pub returns : goal.returns
returns c = record { putting = put_same; outside = outside_in_both }
