use mathlib.Core.Path.{ap}
use mathlib.Core.List.{flat_map}
use Rattle.job.specs.Encoding.{rule_bytes}
use Rattle.rulesets.specs.Sets.{Choice}
use Rattle.rulesets.specs.Jobs.{chosen_rule}
use Rattle.counting.proofs.Written.{record_bytes, choice-named, records_flat, all_start, all_room, all_more, all_done}
use Rattle.counting.proofs.write.put_records.Goals as goal

pub loop-c-init : goal.loop-c-init
loop-c-init c = all_start (record_bytes c.args.size c.args.k) c.args.size (records_flat _ _ c.requires.set.1) c.requires.room

pub put_record-requires : goal.put_record-requires
put_record-requires c = let l = c.loop-c in
    record {
      choice = (c.requires.set.0, c.choice_of.ensures.small);
      room = all_room _ _ l.invariant c.loop-c-test.true (ap (λ (y : Choice). flat_map rule_bytes (chosen_rule l.c y)) (choice-named c.args.size c.args.k l.c c.requires.set.1 c.loop-c-test.true c.choice_of.ensures.value));
    }

pub loop-c-preserved : goal.loop-c-preserved
loop-c-preserved c = let l = c.loop-c in
    all_more _ _ l.invariant c.loop-c-test.true (ap (λ (y : Choice). flat_map rule_bytes (chosen_rule l.c y)) (choice-named c.args.size c.args.k l.c c.requires.set.1 c.loop-c-test.true c.choice_of.ensures.value)) c.put_record.ensures

pub returns : goal.returns
returns c = all_done _ _ c.loop-c.invariant c.loop-c-test.false (records_flat c.args.size c.args.k c.requires.set.1)
