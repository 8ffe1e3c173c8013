-- The reading in which a Push keeps globals and locals: the walk follows it.
use Rattle.std.proofs.Common.{◌≡◌, ℕ, ◌-◌, ◌<◌, Bool, true, false, cond, List, [], ◌∷◌, ◌++◌}
use Rattle.std.proofs.Common.{length, take, refl, sym, ap, ◌∙◌, append-nil}
use Rattle.hidreport_items.specs.declared.item.ItemType.TheVariants as item
use Rattle.hidreport_items.specs.declared.global.GlobalItem.TheVariants as global
use Rattle.hidreport_items.specs.declared.item.ItemType.{ItemType}
use Rattle.hidreport.specs.ItemState.{ItemState, item_state}
use Rattle.hidreport.specs.Kinds.{is_push, is_pop}
use Rattle.hidreport.specs.Parser.Machine.{last_item_state, next_item_state}
use Rattle.hidreport.specs.Visibility.{level}
use Rattle.hidreport.specs.declared.parser.paged_local.PagedLocal.{PagedLocal}
use Rattle.hidreport.specs.declared.parser.push_keeps.PushKeeps.TheVariants as a_push_keeps
use Rattle.hidreport.specs.declared.parser.usages_by.UsagesBy.{UsagesBy}
use Rattle.hidreport.proofs.LevelLemmas.{Rests, stack, length-stack, Stepped, plain-step, push-step}
use Rattle.hidreport.proofs.LevelLemmas.{pop-step}
use Rattle.hidreport.proofs.WalkLemmas.{Steps, Follows}

push_is_no_pop : (x : ItemType) → is_push x ≡ true → is_pop x ≡ false
push_is_no_pop (item.Global global.Push) e = refl
push_is_no_pop (item.Global global.Pop) e = cc
push_is_no_pop (item.Global g) e = cc
push_is_no_pop (item.Main y) e = cc
push_is_no_pop (item.Local y) e = cc
push_is_no_pop item.Long e = cc
push_is_no_pop item.Reserved e = cc

-- a Push changes nothing that is in force
push-item_state : (f : ItemState) (x : ItemType) → is_push x ≡ true → next_item_state f x ≡ f
push-item_state f (item.Global global.Push) e =
    ap (λ (l : List PagedLocal). record f { locals = l }) (append-nil f.locals)
push-item_state f (item.Global global.Pop) e = cc
push-item_state f (item.Global g) e = cc
push-item_state f (item.Main y) e = cc
push-item_state f (item.Local y) e = cc
push-item_state f item.Long e = cc
push-item_state f item.Reserved e = cc

-- a step with its kinds of items told
steps-by : (by : UsagesBy) (a b : Bool) (items : List ItemType) (k : ℕ) (x : ItemType) (f : ItemState)
    (saved : List ItemState) → is_push x ≡ a → is_pop x ≡ b
    → f ≡ cond b (last_item_state (item_state by items k) (stack by items k))
    (next_item_state (item_state by items k) x)
    → saved ≡ cond b (take (length (stack by items k) - 1) (stack by items k))
    (cond a (stack by items k ++ item_state by items k ∷ []) (stack by items k))
    → Stepped by items k f saved → Steps a_push_keeps.All (item_state by items) (stack by items) items k x
steps-by by a b items k x f saved push pop is keeps stepped = record {
  item_states_next = stepped.item_states_next ∙ is
      ∙ ap (λ c. cond c (last_item_state (item_state by items k) (stack by items k))
      (next_item_state (item_state by items k) x))
      (sym pop);
  stack_next = stepped.stack_next ∙ keeps
      ∙ ap (λ c. cond c (take (length (stack by items k) - 1) (stack by items k))
      (cond a (stack by items k ++ item_state by items k ∷ []) (stack by items k))) (sym pop)
      ∙ ap (λ c. cond (is_pop x) (take (length (stack by items k) - 1) (stack by items k))
      (cond c (stack by items k ++ item_state by items k ∷ []) (stack by items k))) (sym push);
  rests_next = stepped.rests_next;
}

all-by : (by : UsagesBy) (a b : Bool) (items front rest : List ItemType) (x : ItemType) → items ≡ front ++ x ∷ rest
    → Rests items (length front)
    → (is_pop x ≡ true → 0 < level items (length front)) → is_push x ≡ a → is_pop x ≡ b
    → Steps a_push_keeps.All (item_state by items) (stack by items) items (length front) x
all-by by true true items front rest x e rests deep push pop = let no = push_is_no_pop x push in cc
all-by by false true items front rest x e rests deep push pop =
    steps-by by false true items (length front) x _ _ push pop refl refl
    (pop-step by items front rest x e rests push pop (deep pop) (item_state by items (length front)))
all-by by true false items front rest x e rests deep push pop =
    steps-by by true false items (length front) x _ _ push pop refl refl
    (push-step by items front rest x e rests push pop
    (push-item_state (item_state by items (length front)) x push))
all-by by false false items front rest x e rests deep push pop =
    steps-by by false false items (length front) x _ _ push pop refl refl
    (plain-step by items front rest x e rests push pop)

pub all-follows : (by : UsagesBy) (items : List ItemType)
    → Follows a_push_keeps.All by (item_state by items) (stack by items) items
all-follows by items = record {
  begins = refl;
  empty = refl;
  leveled = length-stack by items;
  goes_on = λ front rest x e rests deep. all-by by (is_push x) (is_pop x) items front rest x e rests
      deep refl refl;
}
