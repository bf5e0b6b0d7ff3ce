use Rattle.model_checks.proofs.SoundWhole.{sound, finds}
use Rattle.model_checks.proofs.well_formed_is_sound.Goals as goal

pub returns-clause-sound : goal.returns-clause-sound
returns-clause-sound c = sound

pub returns-clause-found : goal.returns-clause-found
returns-clause-found c = finds
