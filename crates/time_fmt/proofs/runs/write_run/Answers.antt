use Rattle.std.proofs.Common.{rules, ◌≡◌, true, false}
use Rattle.std.specs.Prelude.{is_some}
use Rattle.time_fmt.specs.declared.refused.Refused.TheVariants as reason
use Rattle.time_fmt.proofs.EndLemmas.{ends_refused}
use Rattle.time_fmt.proofs.RunLemmas.{date_ends, run_text, time_ends}
use Rattle.time_fmt.proofs.runs.write_run.Goals as goal

pub returns-then-not-SUPPLIES_TIME-clause-appends : goal.returns-then-not-SUPPLIES_TIME-clause-appends
returns-then-not-SUPPLIES_TIME-clause-appends g c =
    let f = g.V.ComponentProvider.facts c.args.value.now in
    let missing : is_some f.time ≡ false = search rules in
    record {
      ends = rw (c.in-Time.is, missing) (ends_refused (g.S.Sink.buffer c.args.output.now) reason.Unsupplied);
      text = run_text c.args.run.now f;
    }

pub returns-else-not-SUPPLIES_TIME-clause-appends : goal.returns-else-not-SUPPLIES_TIME-clause-appends
returns-else-not-SUPPLIES_TIME-clause-appends g c =
    let f = g.V.ComponentProvider.facts c.args.value.now in
    let there : is_some f.time ≡ true = search rules in
    record {
      ends = rw c.in-Time.is
          (time_ends c.in-Time.between.first c.in-Time.between.second f (g.S.Sink.buffer c.args.output.now)
          (g.S.Sink.buffer c.write_time.new.output) there c.write_time.ensures.most c.write_time.ensures.writes);
      text = run_text c.args.run.now f;
    }

pub returns-then-not-SUPPLIES_DATE-clause-appends : goal.returns-then-not-SUPPLIES_DATE-clause-appends
returns-then-not-SUPPLIES_DATE-clause-appends g c =
    let f = g.V.ComponentProvider.facts c.args.value.now in
    let missing : is_some f.date ≡ false = search rules in
    record {
      ends = rw (c.in-Date.is, missing) (ends_refused (g.S.Sink.buffer c.args.output.now) reason.Unsupplied);
      text = run_text c.args.run.now f;
    }

pub returns-else-not-SUPPLIES_DATE-clause-appends : goal.returns-else-not-SUPPLIES_DATE-clause-appends
returns-else-not-SUPPLIES_DATE-clause-appends g c =
    let f = g.V.ComponentProvider.facts c.args.value.now in
    let there : is_some f.date ≡ true = search rules in
    record {
      ends = rw c.in-Date.is
          (date_ends c.in-Date.between.first c.in-Date.between.second f (g.S.Sink.buffer c.args.output.now)
          (g.S.Sink.buffer c.write_date.new.output) there c.write_date.ensures.most c.write_date.ensures.writes);
      text = run_text c.args.run.now f;
    }
