use Rattle.std.proofs.Common.{codes}
use Rattle.l4_options.proofs.Asking.{of_name}
use Rattle.l4_options.specs.Inside.Lines.{found_in}
use Rattle.l4_options.proofs.commands.command_options.Goals as goal

pub returns-then-is_word : goal.returns-then-is_word
returns-then-is_word c = of_name c.args.name.now (codes "run") (found_in c.args.matches.now) c.run_options.result c.if-is_word.ensures c.run_options.ensures

pub returns-then-is_word-2 : goal.returns-then-is_word-2
returns-then-is_word-2 c = of_name c.args.name.now (codes "history") (found_in c.args.matches.now) c.history_options.result c.if-is_word-2.ensures c.history_options.ensures

pub returns-then-is_word-3 : goal.returns-then-is_word-3
returns-then-is_word-3 c = of_name c.args.name.now (codes "judge") (found_in c.args.matches.now) c.judge_options.result c.if-is_word-3.ensures c.judge_options.ensures

pub returns-then-is_word-4 : goal.returns-then-is_word-4
returns-then-is_word-4 c = of_name c.args.name.now (codes "why") (found_in c.args.matches.now) c.why_options.result c.if-is_word-4.ensures c.why_options.ensures

pub returns-then-is_word-5 : goal.returns-then-is_word-5
returns-then-is_word-5 c = of_name c.args.name.now (codes "plan") (found_in c.args.matches.now) c.plan_options.result c.if-is_word-5.ensures c.plan_options.ensures

pub returns-then-is_word-6 : goal.returns-then-is_word-6
returns-then-is_word-6 c = of_name c.args.name.now (codes "check") (found_in c.args.matches.now) c.check_options.result c.if-is_word-6.ensures c.check_options.ensures

pub returns-then-is_word-7 : goal.returns-then-is_word-7
returns-then-is_word-7 c = of_name c.args.name.now (codes "decode") (found_in c.args.matches.now) c.decode_options.result c.if-is_word-7.ensures c.decode_options.ensures

pub returns-then-is_word-8 : goal.returns-then-is_word-8
returns-then-is_word-8 c = of_name c.args.name.now (codes "encode") (found_in c.args.matches.now) c.encode_options.result c.if-is_word-8.ensures c.encode_options.ensures

pub returns-then-is_word-9 : goal.returns-then-is_word-9
returns-then-is_word-9 c = of_name c.args.name.now (codes "test") (found_in c.args.matches.now) c.test_options.result c.if-is_word-9.ensures c.test_options.ensures

pub returns-then-is_word-10 : goal.returns-then-is_word-10
returns-then-is_word-10 c = of_name c.args.name.now (codes "orders") (found_in c.args.matches.now) c.orders_options.result c.if-is_word-10.ensures c.orders_options.ensures
