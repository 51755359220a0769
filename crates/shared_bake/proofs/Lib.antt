pub mod SharedBakeLaws
