use Rattle.std.proofs.Common.{[], ◌++◌}
use Rattle.l4_refusals.specs.Texts.{kernel_texts, message_texts, control_texts, plan_texts, check_texts, table_texts, order_texts}
use Rattle.l4_refusals.proofs.Searching.{here, behind}
use Rattle.l4_refusals.proofs.text_of.Goals as goal

pub returns-in-Some : goal.returns-in-Some
returns-in-Some c =
    here _ kernel_texts (message_texts ++ (control_texts ++ (plan_texts ++ (check_texts ++ (table_texts ++ order_texts))))) _ _ c.kernel_texts.ensures (c.in-Some.ensures (message_texts ++ (control_texts ++ (plan_texts ++ (check_texts ++ (table_texts ++ order_texts))))))

pub returns-in-Some-found_in : goal.returns-in-Some-found_in
returns-in-Some-found_in c =
    behind _ kernel_texts (message_texts ++ (control_texts ++ (plan_texts ++ (check_texts ++ (table_texts ++ order_texts))))) _ _ c.kernel_texts.ensures (c.in_default.ensures (message_texts ++ (control_texts ++ (plan_texts ++ (check_texts ++ (table_texts ++ order_texts)))))) (
    here _ message_texts (control_texts ++ (plan_texts ++ (check_texts ++ (table_texts ++ order_texts)))) _ _ c.message_texts.ensures (c.in-Some-found_in.ensures (control_texts ++ (plan_texts ++ (check_texts ++ (table_texts ++ order_texts))))))

pub returns-in-Some-found_in-2 : goal.returns-in-Some-found_in-2
returns-in-Some-found_in-2 c =
    behind _ kernel_texts (message_texts ++ (control_texts ++ (plan_texts ++ (check_texts ++ (table_texts ++ order_texts))))) _ _ c.kernel_texts.ensures (c.in_default.ensures (message_texts ++ (control_texts ++ (plan_texts ++ (check_texts ++ (table_texts ++ order_texts)))))) (
    behind _ message_texts (control_texts ++ (plan_texts ++ (check_texts ++ (table_texts ++ order_texts)))) _ _ c.message_texts.ensures (c.in_default-found_in.ensures (control_texts ++ (plan_texts ++ (check_texts ++ (table_texts ++ order_texts))))) (
    here _ control_texts (plan_texts ++ (check_texts ++ (table_texts ++ order_texts))) _ _ c.control_texts.ensures (c.in-Some-found_in-2.ensures (plan_texts ++ (check_texts ++ (table_texts ++ order_texts))))))

pub returns-in-Some-found_in-3 : goal.returns-in-Some-found_in-3
returns-in-Some-found_in-3 c =
    behind _ kernel_texts (message_texts ++ (control_texts ++ (plan_texts ++ (check_texts ++ (table_texts ++ order_texts))))) _ _ c.kernel_texts.ensures (c.in_default.ensures (message_texts ++ (control_texts ++ (plan_texts ++ (check_texts ++ (table_texts ++ order_texts)))))) (
    behind _ message_texts (control_texts ++ (plan_texts ++ (check_texts ++ (table_texts ++ order_texts)))) _ _ c.message_texts.ensures (c.in_default-found_in.ensures (control_texts ++ (plan_texts ++ (check_texts ++ (table_texts ++ order_texts))))) (
    behind _ control_texts (plan_texts ++ (check_texts ++ (table_texts ++ order_texts))) _ _ c.control_texts.ensures (c.in_default-found_in-2.ensures (plan_texts ++ (check_texts ++ (table_texts ++ order_texts)))) (
    here _ plan_texts (check_texts ++ (table_texts ++ order_texts)) _ _ c.plan_texts.ensures (c.in-Some-found_in-3.ensures (check_texts ++ (table_texts ++ order_texts))))))

pub returns-in-Some-found_in-4 : goal.returns-in-Some-found_in-4
returns-in-Some-found_in-4 c =
    behind _ kernel_texts (message_texts ++ (control_texts ++ (plan_texts ++ (check_texts ++ (table_texts ++ order_texts))))) _ _ c.kernel_texts.ensures (c.in_default.ensures (message_texts ++ (control_texts ++ (plan_texts ++ (check_texts ++ (table_texts ++ order_texts)))))) (
    behind _ message_texts (control_texts ++ (plan_texts ++ (check_texts ++ (table_texts ++ order_texts)))) _ _ c.message_texts.ensures (c.in_default-found_in.ensures (control_texts ++ (plan_texts ++ (check_texts ++ (table_texts ++ order_texts))))) (
    behind _ control_texts (plan_texts ++ (check_texts ++ (table_texts ++ order_texts))) _ _ c.control_texts.ensures (c.in_default-found_in-2.ensures (plan_texts ++ (check_texts ++ (table_texts ++ order_texts)))) (
    behind _ plan_texts (check_texts ++ (table_texts ++ order_texts)) _ _ c.plan_texts.ensures (c.in_default-found_in-3.ensures (check_texts ++ (table_texts ++ order_texts))) (
    here _ check_texts (table_texts ++ order_texts) _ _ c.check_texts.ensures (c.in-Some-found_in-4.ensures (table_texts ++ order_texts))))))

pub returns-in-Some-found_in-5 : goal.returns-in-Some-found_in-5
returns-in-Some-found_in-5 c =
    behind _ kernel_texts (message_texts ++ (control_texts ++ (plan_texts ++ (check_texts ++ (table_texts ++ order_texts))))) _ _ c.kernel_texts.ensures (c.in_default.ensures (message_texts ++ (control_texts ++ (plan_texts ++ (check_texts ++ (table_texts ++ order_texts)))))) (
    behind _ message_texts (control_texts ++ (plan_texts ++ (check_texts ++ (table_texts ++ order_texts)))) _ _ c.message_texts.ensures (c.in_default-found_in.ensures (control_texts ++ (plan_texts ++ (check_texts ++ (table_texts ++ order_texts))))) (
    behind _ control_texts (plan_texts ++ (check_texts ++ (table_texts ++ order_texts))) _ _ c.control_texts.ensures (c.in_default-found_in-2.ensures (plan_texts ++ (check_texts ++ (table_texts ++ order_texts)))) (
    behind _ plan_texts (check_texts ++ (table_texts ++ order_texts)) _ _ c.plan_texts.ensures (c.in_default-found_in-3.ensures (check_texts ++ (table_texts ++ order_texts))) (
    behind _ check_texts (table_texts ++ order_texts) _ _ c.check_texts.ensures (c.in_default-found_in-4.ensures (table_texts ++ order_texts)) (
    here _ table_texts order_texts _ _ c.table_texts.ensures (c.in-Some-found_in-5.ensures order_texts))))))

pub returns-in-Some-found_in-6 : goal.returns-in-Some-found_in-6
returns-in-Some-found_in-6 c =
    behind _ kernel_texts (message_texts ++ (control_texts ++ (plan_texts ++ (check_texts ++ (table_texts ++ order_texts))))) _ _ c.kernel_texts.ensures (c.in_default.ensures (message_texts ++ (control_texts ++ (plan_texts ++ (check_texts ++ (table_texts ++ order_texts)))))) (
    behind _ message_texts (control_texts ++ (plan_texts ++ (check_texts ++ (table_texts ++ order_texts)))) _ _ c.message_texts.ensures (c.in_default-found_in.ensures (control_texts ++ (plan_texts ++ (check_texts ++ (table_texts ++ order_texts))))) (
    behind _ control_texts (plan_texts ++ (check_texts ++ (table_texts ++ order_texts))) _ _ c.control_texts.ensures (c.in_default-found_in-2.ensures (plan_texts ++ (check_texts ++ (table_texts ++ order_texts)))) (
    behind _ plan_texts (check_texts ++ (table_texts ++ order_texts)) _ _ c.plan_texts.ensures (c.in_default-found_in-3.ensures (check_texts ++ (table_texts ++ order_texts))) (
    behind _ check_texts (table_texts ++ order_texts) _ _ c.check_texts.ensures (c.in_default-found_in-4.ensures (table_texts ++ order_texts)) (
    behind _ table_texts order_texts _ _ c.table_texts.ensures (c.in_default-found_in-5.ensures order_texts) (
    here _ order_texts [] _ _ c.order_texts.ensures (c.in-Some-found_in-6.ensures [])))))))

pub returns : goal.returns
returns c =
    behind _ kernel_texts (message_texts ++ (control_texts ++ (plan_texts ++ (check_texts ++ (table_texts ++ order_texts))))) _ _ c.kernel_texts.ensures (c.in_default.ensures (message_texts ++ (control_texts ++ (plan_texts ++ (check_texts ++ (table_texts ++ order_texts)))))) (
    behind _ message_texts (control_texts ++ (plan_texts ++ (check_texts ++ (table_texts ++ order_texts)))) _ _ c.message_texts.ensures (c.in_default-found_in.ensures (control_texts ++ (plan_texts ++ (check_texts ++ (table_texts ++ order_texts))))) (
    behind _ control_texts (plan_texts ++ (check_texts ++ (table_texts ++ order_texts))) _ _ c.control_texts.ensures (c.in_default-found_in-2.ensures (plan_texts ++ (check_texts ++ (table_texts ++ order_texts)))) (
    behind _ plan_texts (check_texts ++ (table_texts ++ order_texts)) _ _ c.plan_texts.ensures (c.in_default-found_in-3.ensures (check_texts ++ (table_texts ++ order_texts))) (
    behind _ check_texts (table_texts ++ order_texts) _ _ c.check_texts.ensures (c.in_default-found_in-4.ensures (table_texts ++ order_texts)) (
    behind _ table_texts order_texts _ _ c.table_texts.ensures (c.in_default-found_in-5.ensures order_texts) (
    behind _ order_texts [] _ _ c.order_texts.ensures (c.in_default-found_in-6.ensures []) (
    c.meaning.ensures)))))))
