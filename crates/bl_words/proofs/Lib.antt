mod FewWords
mod KeeperLemmas
mod NumberLemmas
mod PathLemmas
