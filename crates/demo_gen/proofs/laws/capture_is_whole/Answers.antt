use Rattle.demo_gen.specs.Capture.{capture, items}
use Rattle.demo_gen.proofs.Fitting.{items-fit, items-few}
use Rattle.demo_gen.proofs.laws.capture_is_whole.Goals as goal

pub returns : goal.returns
unfolding capture
returns c number = c.written_is_read.ensures (items number) (items-fit number) (items-few number)
