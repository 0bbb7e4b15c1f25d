use Rattle.std.proofs.Common.{◌∙◌, sym, ap, option_map}
use Rattle.clap.specs.Words.{app_of, kind_of}
use Rattle.program_edge.specs.Words.{texts_of}
use Rattle.program_edge.proofs.Positional.{name_read, usage_refused}
use Rattle.program_edge.proofs.words.one_positional.Goals as goal

pub returns-in-Some-clause-ok : goal.returns-in-Some-clause-ok
returns-in-Some-clause-ok c =
    let read = name_read (app_of c.in-Ok.command) (texts_of c.args.words.now) c.in-Ok-try_get_matches_from.matches (option_map (λ s. s.now) c.get_str.result)
    c.in-Ok.ensures c.requires c.in-Ok-try_get_matches_from.ensures.kinds c.in-Ok-try_get_matches_from.ensures.matches c.get_str.ensures in
    read.1 ∙ sym (sym (ap (option_map (λ s. s.now)) c.in-Some.is) ∙ read.2)

pub unreachable-requires : goal.unreachable-requires
unreachable-requires c =
    let read = name_read (app_of c.in-Ok.command) (texts_of c.args.words.now) c.in-Ok-try_get_matches_from.matches (option_map (λ s. s.now) c.get_str.result)
    c.in-Ok.ensures c.requires c.in-Ok-try_get_matches_from.ensures.kinds c.in-Ok-try_get_matches_from.ensures.matches c.get_str.ensures in
    let bad = sym (ap (option_map (λ s. s.now)) c.in-None.is) ∙ read.2 in
    cc

pub returns-clause-usage : goal.returns-clause-usage
returns-clause-usage c usage =
    usage_refused (app_of c.in-Ok.command) (texts_of c.args.words.now) (kind_of c.in-Err.error) c.in-Ok.ensures c.requires (λ memory. c.in_default-kind.not-OutOfMemory (c.kind.ensures ∙ memory)) c.in-Err.ensures.kinds
