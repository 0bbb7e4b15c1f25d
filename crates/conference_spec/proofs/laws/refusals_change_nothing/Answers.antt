use Rattle.std.proofs.lemmas.Bool.{cond-false}
use Rattle.conference_spec.specs.Machine.{accepts, entered, holds_out, with_reached, with_stage}
use Rattle.conference_spec.specs.declared.Stage.TheVariants.{Waiting, Finished}
use Rattle.conference_spec.proofs.laws.refusals_change_nothing.Goals as goal

pub returns : goal.returns
returns c = record {
  entry = λ coder d e t. cond-false (accepts coder d e) (entered coder d e) d t;
  publish = λ coder d n x t. cond-false (holds_out coder d.runs n x) (with_reached coder (with_stage d n Finished)) d t;
  give_back = λ coder d n x t. cond-false (holds_out coder d.runs n x) (with_stage d n Waiting) d t;
}
