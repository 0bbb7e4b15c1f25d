use Rattle.talk_726.proofs.Tracking.{tracks, says, passes-gap, silent-gap, restarts}
use Rattle.talk_726.proofs.laws.decoder_follows_an_encoder.Goals as goal

pub returns : goal.returns
returns c = record { state = tracks; samples = says; gap = passes-gap; silence = silent-gap; restart = restarts }
