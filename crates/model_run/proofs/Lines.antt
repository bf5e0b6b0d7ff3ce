-- The examples of lines.
use Rattle.std.proofs.Common.{refl}
use Rattle.std.specs.Fmt.{digits}
use Rattle.model_run.specs.Examples.{LinesAre}

pub lines_are : LinesAre
unfolding digits lib.Utf8.encode
lines_are = record {
  a_tree = refl;
  minimal = refl;
  passes = refl;
  fails = refl;
  classes = refl;
  width = refl;
  form_range = refl;
  label_range = refl;
  composable = refl;
  language = refl;
  two_found = refl;
  none_found = refl;
  load = refl;
  size = refl;
  word = refl;
  two_outputs = refl;
  inside = refl;
  outside = refl;
  generated = refl;
}
